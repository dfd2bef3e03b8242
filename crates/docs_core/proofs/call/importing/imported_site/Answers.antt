use Rattle.std.proofs.Common.{◌≡◌, inl, inr}
use Rattle.std.proofs.lemmas.Result.{err_from_is_err_and}
use Rattle.map_docs.proofs.MapsLabelsLemmas.{else_by}
use Rattle.docs_core.proofs.CallsLemmas.{site_written}
use Rattle.docs_core.proofs.call.importing.imported_site.Goals as goal

-- the site is refused
pub returns-in_err-site : goal.returns-in_err-site
returns-in_err-site c =
    let p = err_from_is_err_and c.from_residual.result
    c.from_residual.ensures.1 in
    rw (p.1, p.2) (else_by c.in_err-site.ensures (λ h. inl h))

-- the language maps are refused
pub returns-in_err-maps : goal.returns-in_err-maps
returns-in_err-maps c =
    let p = err_from_is_err_and c.from_residual-in_err-maps.result
    c.from_residual-in_err-maps.ensures.1 in
    rw (p.1, p.2) (else_by c.in_err-maps.ensures
    (λ h. inr (inl (c.in_ok-site.site, c.in_ok-site.ensures, h))))

-- all labels are put
pub returns : goal.returns
returns c =
    let site = c.in_ok-site.site in
    let left = c.put_labels.new.site in
    let put = c.in_ok-put_labels.ensures in
    let same : left ≡ record { name = site.name; cells = left.cells } =
    λ i. record { name = put.name i; cells = left.cells } in (
      site,
      c.in_ok-maps.maps,
      left.cells,
      c.in_ok-site.ensures,
      c.in_ok-maps.ensures,
      put.ok,
      site_written c.in_ok-doc.doc left _ same c.in_ok-doc.ensures.text c.in_ok-doc.ensures.reads,
    )
