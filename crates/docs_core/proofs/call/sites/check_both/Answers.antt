use Rattle.std.proofs.Common.{◌∙◌, ◌<◌, ◌^◌, ap, arith, inl, inr, length, subst, sym}
use Rattle.std.proofs.lemmas.Result.{err_from_is_err_and}
use Rattle.catalogue.specs.Entries.{Entries}
use Rattle.cata_core.specs.Site.{SiteState}
use Rattle.site_docs.proofs.ReadingOneDocument.{one_site}
use Rattle.site_docs.specs.Checks.{IsOwnMissing, LacksNoOwn}
use Rattle.docs_core.proofs.CallRefusals.{site_not_refused}
use Rattle.site_docs.proofs.ChecksRowsFit.{site_fits}
use Rattle.docs_core.proofs.call.sites.check_both.Goals as goal

-- a document that reads as a site is refused for want of memory alone
pub returns-in_err-first : goal.returns-in_err-first
returns-in_err-first c = λ site reads.
    let p = err_from_is_err_and c.from_residual.result c.from_residual.ensures.1 in
    rw (p.1, p.2) (elim c.in_err-first.ensures [
      | inl memory ↦ inl memory
      | inr refused ↦ absurd (site_not_refused 1 c.args.first.now site _ reads refused)
    ])

pub check_own-requires : goal.check_own-requires
check_own-requires c =
    let few = site_fits c.args.first.now c.in_ok-first.first c.in_ok-first.ensures in
    subst (λ (cells : Entries). length cells < 2 ^ 64) (sym c.catalogue.ensures) (omega
    (arith, few))

-- the first document has an edit that the second site made and lacks
pub returns-in_err-check_own : goal.returns-in_err-check_own
returns-in_err-check_own c = λ site reads.
    let p = err_from_is_err_and c.from_residual-in_err-check_own.result
    c.from_residual-in_err-check_own.ensures.1 in
    let same = one_site c.args.first.now c.in_ok-first.first site c.in_ok-first.ensures reads in
    let cells = c.catalogue.ensures ∙ ap (λ (s : SiteState). s.cells) same in
    rw (p.1, p.2)
    (inr (inl (subst
    (λ (rows : Entries). IsOwnMissing 1 c.args.own c.args.second.now rows
    c.in_err-check_own.field-0.0) cells c.in_err-check_own.ensures.err)))

-- the second has one that the first made and lacks
pub returns-in_err-check_own-2 : goal.returns-in_err-check_own-2
returns-in_err-check_own-2 c = λ site reads.
    let p = err_from_is_err_and c.from_residual-in_err-check_own-2.result
    c.from_residual-in_err-check_own-2.ensures.1 in
    let same = one_site c.args.first.now c.in_ok-first.first site c.in_ok-first.ensures reads in
    let cells = c.catalogue.ensures ∙ ap (λ (s : SiteState). s.cells) same in
    rw (p.1, p.2)
    (inr (inr (
      subst (LacksNoOwn c.args.own c.args.second.now) cells c.in_ok-check_own.ensures.ok,
      subst
          (λ (s : SiteState). IsOwnMissing 2 c.args.own s c.args.second.now.cells
          c.in_err-check_own-2.field-0.0) same
          (subst
          (λ (rows : Entries). IsOwnMissing 2 c.args.own c.in_ok-first.first rows
          c.in_err-check_own-2.field-0.0) c.catalogue-2.ensures c.in_err-check_own-2.ensures.err),
    )))

-- neither has one
pub returns : goal.returns
returns c = λ site reads.
    let same = one_site c.args.first.now c.in_ok-first.first site c.in_ok-first.ensures reads in
    let cells = c.catalogue.ensures ∙ ap (λ (s : SiteState). s.cells) same in (
      subst (LacksNoOwn c.args.own c.args.second.now) cells c.in_ok-check_own.ensures.ok,
      subst (λ (s : SiteState). LacksNoOwn c.args.own s c.args.second.now.cells) same
          (subst (LacksNoOwn c.args.own c.in_ok-first.first) c.catalogue-2.ensures
          c.in_ok-check_own-2.ensures.ok),
    )
