use Rattle.std.proofs.Common.{◌∙◌, ◌≤◌, ◌<◌, ap, arith, subst}
use Rattle.cell_core.specs.declared.stamp.Stamp.{Stamp}
use Rattle.catalogue.specs.Cells.{cells_left}
use Rattle.site_docs.proofs.ChecksLemmas.{searched_ahead, searched_all, searched_next}
use Rattle.site_docs.proofs.ChecksLemmas.{searched_none}
use Rattle.site_docs.proofs.checks.first_row_ahead.Goals as goal

pub loop-cell-init : goal.loop-cell-init
loop-cell-init c =
    searched_none c.args.cells.now (cells_left c.into_iter-cell-iterator.result) c.args.not_after
    (ap cells_left c.into_iter-cell-iterator.ensures.into_iter_gives
    ∙ c.iter-cell-items.ensures.cells)

pub returns : goal.returns
returns c =
    λ few. searched_all c.args.cells.now _ c.args.not_after c.loop-cell.row c.loop-cell.invariant
    c.in-None.ensures.steps.0

pub returns-then-stamp-not_after : goal.returns-then-stamp-not_after
returns-then-stamp-not_after c =
    λ few. searched_ahead c.args.cells.now _ (cells_left c.next.new.self)
    ((c.in-Some.field-0-0.now, c.in-Some.field-0-1.now), c.in-Some.cell.now) c.args.not_after
    c.loop-cell.row c.loop-cell.invariant c.in-Some.ensures.steps
    (subst (λ (s : Stamp). c.args.not_after < s.time) c.stamp.ensures c.if-stamp-not_after.true) few

pub loop-cell-preserved : goal.loop-cell-preserved
loop-cell-preserved c =
    searched_next c.args.cells.now _ (cells_left c.next.new.self)
    ((c.in-Some.field-0-0.now, c.in-Some.field-0-1.now), c.in-Some.cell.now) c.args.not_after
    c.loop-cell.row _ c.loop-cell.invariant c.in-Some.ensures.steps
    (subst (λ (s : Stamp). s.time ≤ c.args.not_after) c.stamp.ensures c.if-stamp-not_after.false)
    (λ few. omega (arith, few))
