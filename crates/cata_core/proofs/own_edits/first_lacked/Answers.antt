use Rattle.std.proofs.Common.{◌∙◌, ap, arith, sym, true≢false}
use Rattle.catalogue.specs.Cells.{cells_left}
use Rattle.cata_core.proofs.OwnEditsLemmas.{sought_all, sought_first, sought_next, sought_none}
use Rattle.cata_core.proofs.own_edits.first_lacked.Goals as goal

pub loop-id-init : goal.loop-id-init
loop-id-init c =
    sought_none c.args.name c.args.cells.now c.args.rows.now
    (cells_left c.into_iter-id-iterator.result)
    (ap cells_left c.into_iter-id-iterator.ensures.into_iter_gives ∙ c.iter-id-items.ensures.cells)

pub returns : goal.returns
returns c =
    λ few. sought_all c.args.name c.args.cells.now c.args.rows.now _ c.loop-id.row
    c.loop-id.invariant c.in-None.ensures.steps.0

pub returns-then-is_lacked : goal.returns-then-is_lacked
returns-then-is_lacked c =
    λ few. sought_first c.args.name c.args.cells.now c.args.rows.now _ (cells_left c.next.new.self)
    ((c.in-Some.id.now, c.in-Some.lang.now), c.in-Some.cell.now) c.loop-id.row c.loop-id.invariant
    c.in-Some.ensures.steps (c.is_lacked.ensures.0 c.if-is_lacked.true) few

pub loop-id-preserved : goal.loop-id-preserved
loop-id-preserved c =
    sought_next c.args.name c.args.cells.now c.args.rows.now _ (cells_left c.next.new.self)
    ((c.in-Some.id.now, c.in-Some.lang.now), c.in-Some.cell.now) c.loop-id.row _ c.loop-id.invariant
    c.in-Some.ensures.steps
    (λ lacked. true≢false (sym (c.is_lacked.ensures.1 lacked) ∙ c.if-is_lacked.false))
    (λ few. omega (arith, few))
