use Rattle.std.proofs.Common.{inl, inr}
use Rattle.std.proofs.lemmas.Result.{err_from_is_err_and}
use Rattle.json_docs.proofs.ObjectMembersLemmas.{both_weaker}
use Rattle.map_docs.proofs.MapsLabelsLemmas.{else_by}
use Rattle.docs_core.specs.inner.Updating.{RefusesMaps}
use Rattle.docs_core.proofs.CallsLemmas.{refused_after}
use Rattle.docs_core.proofs.UpdatingRefusalLemmas.{maps_refused, maps_updated}
use Rattle.docs_core.proofs.call.updating.update_document.Goals as goal

-- the rows were copied
pub returns-in-Some : goal.returns-in-Some
returns-in-Some c =
    maps_updated c.args.site.now c.args.now c.args.old.now c.args.new.now c.in-Ok.maps.0
    c.in-Ok.maps.1 c.in-Some.doc c.in-Ok.ensures.0 c.in-Ok.ensures.1
    (rw c.in-Some.is at c.in_ok-doc.ensures)

-- the site was read into memory
pub returns : goal.returns
returns c =
    both_weaker c.updated_site.result _ _ _ _ c.updated_site.ensures
    (λ doc updated. maps_updated c.args.site.now c.args.now c.args.old.now c.args.new.now
    c.in-Ok.maps.0 c.in-Ok.maps.1 doc c.in-Ok.ensures.0 c.in-Ok.ensures.1 updated)
    (λ fault why. maps_refused c.args.site.now c.args.now c.args.old.now c.args.new.now
    c.in-Ok.maps.0 c.in-Ok.maps.1 fault c.in-Ok.ensures.0 c.in-Ok.ensures.1 why)

-- the site is refused
pub returns-in_err-doc : goal.returns-in_err-doc
returns-in_err-doc c =
    let p = err_from_is_err_and c.from_residual.result c.from_residual.ensures.1 in
    rw (p.1, p.2) (maps_refused c.args.site.now c.args.now c.args.old.now c.args.new.now
    c.in-Ok.maps.0 c.in-Ok.maps.1 c.in_err-doc.field-0.0 c.in-Ok.ensures.0
    c.in-Ok.ensures.1 c.in_err-doc.ensures)

-- the maps are refused, and before them the site, if it is
pub returns-in-Err : goal.returns-in-Err
returns-in-Err c =
    else_by (refused_after c.args.site.now c.in-Err.fault c.first_refusal.result
    (RefusesMaps c.args.old.now c.args.new.now) c.first_refusal.ensures c.in-Err.ensures)
    (λ why. elim why [
      | inl site ↦ inl site
      | inr read ↦ elim read.2 [
        | inl old ↦ inr (inl (read.0, read.1, old))
        | inr new ↦ inr (inr (inl (read.0, new.0, read.1, new.1, new.2)))
      ]
    ])
