use Rattle.std.proofs.Common.{◌∙◌, ap, arith, inl, inr, subst}
use Rattle.std.proofs.lemmas.Result.{err_from_is_err_and}
use Rattle.catalogue.specs.CataFault.{IsRefusal}
use Rattle.catalogue.specs.Entries.{Entries}
use Rattle.catalogue.specs.declared.cata_fault.CataFault.{CataFault}
use Rattle.cata_core.specs.Site.{SiteState}
use Rattle.json_docs.specs.Faults.{of_no_document, of_site}
use Rattle.map_docs.proofs.MapsLabelsLemmas.{else_by}
use Rattle.site_docs.specs.Checks.{RefusesDeltaUntil}
use Rattle.docs_core.specs.inner.JoinedRows.{HoldsJoined}
use Rattle.docs_core.proofs.CallsLemmas.{of_call, refused_after}
use Rattle.site_docs.proofs.ChecksRowsFit.{delta_fits}
use Rattle.docs_core.proofs.call.sites.take_document.Goals as goal

-- the delta is refused, and before it the site, if it is
pub returns-in-Err : goal.returns-in-Err
returns-in-Err c =
    else_by (refused_after c.args.site.now c.in-Err.fault c.first_refusal.result
    (RefusesDeltaUntil 2 c.args.checks.not_after c.args.delta.now) c.first_refusal.ensures
    c.in-Err.ensures) (λ why. elim why [ inl site ↦ inl site | inr read ↦ inr (inl read) ])

pub check_delta-requires : goal.check_delta-requires
check_delta-requires c =
    let few = delta_fits c.args.delta.now c.in-Ok.delta c.in-Ok.ensures.0 in omega (arith, few)

-- The site was read and joined with the cells of the delta, which is for it and passes the checks.
pub returns : goal.returns
returns c =
    let show = c.in_ok-name.ensures in
    let delta = c.in-Ok.delta in
    let site : SiteState = record { name = c.in_ok-name.name; cells = show.0 } in
    let others = c.in_ok-start.ensures ∙ c.cells.ensures in
    let holds = subst (λ (o : Entries). HoldsJoined c.in_ok-name.rows o show.0) others show.3.1 in
    let doc = c.in_ok-doc.ensures show.0 delta.cells holds in (
      site,
      delta,
      show.1,
      c.in-Ok.ensures,
      c.in_ok-check_addressee.ensures,
      c.in_ok-check_delta.ensures site show.1 c.in_ok-check_addressee.ensures,
      doc.0,
      doc.1,
    )

-- the delta is for another site
pub returns-in_err-check_addressee : goal.returns-in_err-check_addressee
returns-in_err-check_addressee c =
    let p = err_from_is_err_and c.from_residual-in_err-check_addressee.result
    c.from_residual-in_err-check_addressee.ensures.1 in
    let show = c.in_ok-name.ensures in
    let refused = c.in_err-check_addressee.ensures in
    rw p.1 (inr (inr (inr (
      record { name = c.in_ok-name.name; cells = show.0 },
      c.in-Ok.delta,
      show.1,
      c.in-Ok.ensures,
      inl (
        refused.1,
        p.2 ∙ ap (λ (cause : CataFault). of_no_document (of_site cause)) refused.0,
      ),
    ))))

-- it has an edit of the site which that lacks
pub returns-in_err-check_delta : goal.returns-in_err-check_delta
returns-in_err-check_delta c =
    let p = err_from_is_err_and c.from_residual-in_err-check_delta.result
    c.from_residual-in_err-check_delta.ensures.1 in
    let show = c.in_ok-name.ensures in
    let site : SiteState = record { name = c.in_ok-name.name; cells = show.0 } in
    let mine = c.in_ok-check_addressee.ensures in
    rw (p.1, p.2)
    (else_by (c.in_err-check_delta.ensures site show.1 mine)
    (λ missing. inr (inr
    (site, c.in-Ok.delta, show.1, c.in-Ok.ensures, inr (inl (mine, missing))))))

-- the two do not agree
pub returns-in_err-doc : goal.returns-in_err-doc
returns-in_err-doc c =
    let p = err_from_is_err_and c.from_residual-in_err-doc.result
    c.from_residual-in_err-doc.ensures.1 in
    let show = c.in_ok-name.ensures in
    let delta = c.in-Ok.delta in
    let site : SiteState = record { name = c.in_ok-name.name; cells = show.0 } in
    let others = c.in_ok-start.ensures ∙ c.cells.ensures in
    let holds = subst (λ (o : Entries). HoldsJoined c.in_ok-name.rows o show.0) others show.3.1 in
    let mine = c.in_ok-check_addressee.ensures in
    let none = c.in_ok-check_delta.ensures site show.1 mine in
    let why = c.in_err-doc.ensures show.0 delta.cells holds in
    rw p.1
    (else_by (of_call (IsRefusal site.cells delta.cells) c.in_err-doc.field-0.0 p.0 why p.2)
    (λ h. inr (inr (site, delta, show.1, c.in-Ok.ensures, inr (inr (mine, none, h))))))
