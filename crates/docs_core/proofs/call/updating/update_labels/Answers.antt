use Rattle.std.proofs.Common.{◌∙◌, ℕ, List, ap, subst}
use Rattle.cell_core.specs.Stamp.{NoNext}
use Rattle.catalogue.specs.CatalogueLatest.{latest_of}
use Rattle.cata_core.specs.Site.{SiteState}
use Rattle.docs_core.specs.inner.Revised.{IsRevised}
use Rattle.map_docs.proofs.MapsLabelsLemmas.{else_by}
use Rattle.docs_core.proofs.UpdatingLemmas.{SpendsUpdate-here, front_done, front_left, front_next}
use Rattle.docs_core.proofs.UpdatingLemmas.{front_spends}
use Rattle.docs_core.proofs.call.updating.update_labels.Goals as goal

-- No memory, or no stamp follows for this key's change; since the keys before it are done, the
-- clock is spent by the whole update.
pub returns-in-Err-clause-err : goal.returns-in-Err-clause-err
returns-in-Err-clause-err c =
    let inv = c.loop-revised.invariant in
    let name = c.args.site.now.name in
    let olds = c.loop-revised.olds.now in
    let news = c.loop-revised.news.now in
    let cells = c.loop-revised.site.cells in
    else_by c.in-Err.ensures.err
    (λ spent. (
      spent.0,
      front_spends c.args.now name c.args.old.now c.args.new.now c.args.site.now.cells olds news
          cells inv.front
          (SpendsUpdate-here c.args.now name c.in-Some.revised olds news
          c.in-Some.old_rest.now c.in-Some.new_rest.now
          c.in-Some.ensures.first cells (
            spent.1.0,
            subst (λ (n : List ℕ). NoNext (latest_of c.loop-revised.site.cells) c.args.now n)
                inv.name spent.1.1,
          )),
    ))

-- the changes before this one are made, and what was refused changed nothing
pub returns-in-Err-clause-left : goal.returns-in-Err-clause-left
returns-in-Err-clause-left c =
    front_left c.args.now c.args.site.now.name c.args.old.now c.args.new.now
    c.args.site.now.cells c.loop-revised.olds.now c.loop-revised.news.now
    c.loop-revised.site.cells c.loop-revised.invariant.front c.revise.new.site.cells
    (ap (λ (s : SiteState). s.cells) c.in-Err.ensures.left)

-- no key is left
pub returns-clause-ok : goal.returns-clause-ok
returns-clause-ok c =
    let none = c.in_default.ensures.first in
    front_done c.args.now c.args.site.now.name c.args.old.now c.args.new.now
    c.args.site.now.cells c.loop-revised.olds.now c.loop-revised.news.now
    c.loop-revised.site.cells c.loop-revised.invariant.front none.0
    none.1

-- The least key was revised, the site's name stays, and what is left of both lists still ascends.
pub loop-revised-preserved : goal.loop-revised-preserved
loop-revised-preserved c =
    let inv = c.loop-revised.invariant in
    let first = c.in-Some.ensures.first in
    let name = c.args.site.now.name in
    let done =
    subst (λ (n : List ℕ). IsRevised c.args.now n c.in-Some.revised c.loop-revised.site.cells
    c.revise.new.site.cells) inv.name c.in-Ok.ensures.ok in record {
      name = c.in-Ok.ensures.name ∙ inv.name;
      old_map = first.old_head.ascends;
      new_map = first.new_head.ascends;
      front = front_next c.args.now name c.args.old.now c.args.new.now c.args.site.now.cells
          c.loop-revised.olds.now c.loop-revised.news.now
          c.loop-revised.site.cells inv.front c.in-Some.revised
          c.in-Some.old_rest.now c.in-Some.new_rest.now
          c.revise.new.site.cells first done;
    }
