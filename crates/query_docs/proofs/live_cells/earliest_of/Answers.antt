use Rattle.std.proofs.Common.{◌≡◌, ℕ, List, arith, length, subst, sym}
use Rattle.std.proofs.Math.Seq.{take-length}
use Rattle.std.proofs.lemmas.List.Elements.{All-nil}
use Rattle.nego_core.specs.WidenedChoice.{IsTriedAt, MatchEarliest}
use Rattle.query_docs.proofs.LiveCellsLemmas.{languages_to}
use Rattle.query_docs.proofs.live_cells.earliest_of.Goals as goal

pub loop-cell-init : goal.loop-cell-init
loop-cell-init c =
    All-nil (λ l. (n : ℕ) → ¬ IsTriedAt c.args.ranges.now.scheme c.args.ranges.now.list.now l n)

-- the language of this cell may be earlier
pub loop-cell-preserved : goal.loop-cell-preserved
loop-cell-preserved c =
    let ranges = c.args.ranges.now in
    subst (λ (langs : List (List ℕ)). MatchEarliest ranges.scheme ranges.list.now langs
    c.earlier_of-earliest.result)
    (sym (languages_to c.args.cells.now c.loop-cell.cell-index c.cell-item.result
    c.loop-cell-test.true c.cell-item.is))
    (c.earlier_of-earliest.ensures _ c.loop-cell.invariant)

pub returns : goal.returns
returns c =
    let all : c.loop-cell.cell-index ≡ length c.args.cells.now = omega arith in
    rw (all, take-length) at c.loop-cell.invariant
