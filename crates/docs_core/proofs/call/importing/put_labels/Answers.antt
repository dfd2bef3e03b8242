use Rattle.std.proofs.Common.{◌∙◌, ℕ, List, Some, ap, subst}
use Rattle.cell_core.specs.Stamp.{IsNext, NoNext}
use Rattle.catalogue.specs.CatalogueLatest.{latest_of}
use Rattle.cata_core.specs.Site.{SiteState}
use Rattle.map_docs.specs.Maps.{Labelled}
use Rattle.docs_core.specs.ImportingLabels.{SpendsImport}
use Rattle.docs_core.specs.UpdatingChanges.{with_change}
use Rattle.map_docs.proofs.MapsLabelsLemmas.{else_by}
use Rattle.docs_core.proofs.ImportingLemmas.{Imports-push, SpendsImport-here, not_put, some_put}
use Rattle.docs_core.proofs.call.importing.put_labels.Goals as goal

-- The put was refused: no memory, or no stamp follows for this label; since those before it were
-- put, the clock is spent by the whole list.
pub returns-in-Err-clause-err : goal.returns-in-Err-clause-err
returns-in-Err-clause-err c =
    let inv = c.loop-found.invariant in
    let name = c.args.site.now.name in
    else_by (not_put c.loop-found.site c.args.now c.in-Err.fault c.in-Err.ensures.err)
    (λ spent. (
      spent.0,
      subst (λ (labels : List Labelled). SpendsImport c.args.now name labels c.args.site.now.cells)
          c.labels-found-items.ensures.labels
          (SpendsImport-here c.args.now name c.labels-found-items.result.now
          c.loop-found.found-index c.found-item.result c.loop-found-test.true c.found-item.is
          c.args.site.now.cells c.loop-found.site.cells inv.put
          (subst (λ (n : List ℕ). NoNext (latest_of c.loop-found.site.cells) c.args.now n) inv.name
          spent.1)),
    ))

-- the labels before this one are put, and the put that was refused changed nothing
pub returns-in-Err-clause-left : goal.returns-in-Err-clause-left
returns-in-Err-clause-left c =
    some_put c.args.now c.args.site.now.name c.labels-found-items.result.now
    c.loop-found.found-index c.args.maps.now c.args.site.now.cells c.loop-found.site.cells
    c.put.new.self.cells c.labels-found-items.ensures.labels c.loop-found.invariant.put
    (ap (λ (s : SiteState). s.cells) c.in-Err.ensures.left)

-- This label is put with the next stamp of the site, whose name stays.
pub loop-found-preserved : goal.loop-found-preserved
loop-found-preserved c =
    let inv = c.loop-found.invariant in
    let name = c.args.site.now.name in
    let put = c.in-Ok.ensures.ok in
    let next =
    subst (λ (n : List ℕ). IsNext (latest_of c.loop-found.site.cells) c.args.now n
    c.in-Ok.field-0) inv.name put.0 in record {
      name = ap (λ (s : SiteState). s.name) put.1 ∙ inv.name;
      put = Imports-push c.args.now name c.labels-found-items.result.now c.loop-found.found-index
          c.found-item.result c.loop-found-test.true c.found-item.is c.args.site.now.cells
          c.loop-found.site.cells inv.put c.in-Ok.field-0 c.put.new.self.cells next
          (ap (λ (s : SiteState). s.cells) put.1
          ∙ (λ j. with_change ((c.id.ensures j, c.lang.ensures j), Some (c.value.ensures j))
          c.in-Ok.field-0 c.loop-found.site.cells));
    }
