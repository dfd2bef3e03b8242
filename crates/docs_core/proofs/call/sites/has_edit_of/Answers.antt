use Rattle.std.proofs.Common.{◌∙◌, ap, sym, true≢false}
use Rattle.std.specs.Cmp.Lexicographic.{bytes_decides}
use Rattle.cell_core.specs.declared.stamp.Stamp.{Stamp}
use Rattle.catalogue.specs.Cells.{cells_left}
use Rattle.docs_core.proofs.SitesChecksLemmas.{foreign_all, foreign_next, foreign_none}
use Rattle.docs_core.proofs.call.sites.has_edit_of.Goals as goal

pub loop-cell-init : goal.loop-cell-init
loop-cell-init c =
    foreign_none c.args.name c.args.cells.now (cells_left c.into_iter-cell-iterator.result)
    (ap cells_left c.into_iter-cell-iterator.ensures.into_iter_gives
    ∙ c.iter-cell-items.ensures.cells)

-- no stamp of all cells names the site
pub returns : goal.returns
returns c = λ is.
    foreign_all c.args.name c.args.cells.now _ c.loop-cell.invariant c.in-None.ensures.steps.0

-- the cell names another site
pub loop-cell-preserved : goal.loop-cell-preserved
loop-cell-preserved c =
    foreign_next c.args.name c.args.cells.now _ (cells_left c.next.new.self)
    ((c.in-Some.field-0-0.now, c.in-Some.field-0-1.now), c.in-Some.cell.now) c.loop-cell.invariant
    c.in-Some.ensures.steps
    (λ own. true≢false
    (sym ((bytes_decides c.stamp.result.site c.args.name).1
    (ap (λ (s : Stamp). s.site) c.stamp.ensures ∙ own)) ∙ sym c.eq.ensures ∙ c.if-eq.false))
