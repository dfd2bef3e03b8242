use Rattle.std.proofs.Common.{◌≡◌, inl}
use Rattle.std.proofs.lemmas.Result.{err_from_is_err_and}
use Rattle.map_docs.proofs.MapsLabelsLemmas.{else_by}
use Rattle.docs_core.proofs.CallsLemmas.{site_written}
use Rattle.docs_core.proofs.UpdatingRefusalLemmas.{not_updated}
use Rattle.docs_core.proofs.call.updating.updated_site.Goals as goal

-- the site is refused
pub returns-in_err-site : goal.returns-in_err-site
returns-in_err-site c =
    let p = err_from_is_err_and c.from_residual.result
    c.from_residual.ensures.1 in
    rw (p.1, p.2) (else_by c.in_err-site.ensures (λ h. inl h))

-- there is no next stamp for a change
pub returns-in_err-update_labels : goal.returns-in_err-update_labels
returns-in_err-update_labels c =
    let p = err_from_is_err_and c.from_residual-in_err-update_labels.result
    c.from_residual-in_err-update_labels.ensures.1 in
    let site = c.in_ok-site.site in
    rw p.1
    (not_updated c.args.site.now c.args.now c.args.old.now c.args.new.now site
    c.in_err-update_labels.field-0.0 p.0 c.in_ok-site.ensures c.in_err-update_labels.ensures.err
    p.2)

-- all changes are made
pub returns : goal.returns
returns c =
    let site = c.in_ok-site.site in
    let left = c.update_labels.new.site in
    let made = c.in_ok-update_labels.ensures in
    let same : left ≡ record { name = site.name; cells = left.cells } =
    λ i. record { name = made.name i; cells = left.cells } in (
      site,
      left.cells,
      c.in_ok-site.ensures,
      made.ok,
      site_written c.in_ok-doc.doc left _ same c.in_ok-doc.ensures.text c.in_ok-doc.ensures.reads,
    )
