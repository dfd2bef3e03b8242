use Rattle.std.proofs.Common.{◌≢◌, List, inl, inr, subst, ℕ}
use Rattle.std.specs.Prelude.{All}
use Rattle.std.proofs.lemmas.Result.{err_from_is_err_and}
use Rattle.catalogue.specs.Entries.{Entries, Entry}
use Rattle.cata_core.specs.Site.{SiteState}
use Rattle.site_docs.proofs.ReadingOneDocument.{one_site}
use Rattle.site_docs.specs.Checks.{IsOwnMissing, LacksNoOwn}
use Rattle.docs_core.proofs.CallRefusals.{site_not_refused}
use Rattle.docs_core.proofs.SitesChecksLemmas.{foreign_lacks_none}
use Rattle.docs_core.proofs.call.sites.check_delta.Goals as goal

-- no stamp of the delta names the site
pub returns-then-not-has_edit_of : goal.returns-then-not-has_edit_of
returns-then-not-has_edit_of c = λ read reads mine.
    foreign_lacks_none c.args.own read c.args.delta.now.addressee c.args.delta.now.cells mine
    (subst (λ (cells : Entries). All (λ (e : Entry). e.1.stamp.site ≢ c.args.delta.now.addressee)
    cells) c.cells.ensures
    (subst (λ (name : List ℕ). All (λ (e : Entry). e.1.stamp.site ≢ name) c.cells.result.now)
    c.addressee.ensures (c.has_edit_of.ensures c.if-not-has_edit_of.true)))

-- a document that reads as a site is refused for want of memory alone
pub returns-in_err-site : goal.returns-in_err-site
returns-in_err-site c = λ read reads mine.
    let p = err_from_is_err_and c.from_residual.result c.from_residual.ensures.1 in
    rw (p.1, p.2) (elim c.in_err-site.ensures [
      | inl memory ↦ inl memory
      | inr refused ↦ absurd (site_not_refused 1 c.args.site.now read _ reads refused)
    ])

-- the delta has an edit of the site which that lacks
pub returns-in_err-check_own : goal.returns-in_err-check_own
returns-in_err-check_own c = λ read reads mine.
    let p = err_from_is_err_and c.from_residual-in_err-check_own.result
    c.from_residual-in_err-check_own.ensures.1 in
    let same = one_site c.args.site.now c.in_ok-site.site read c.in_ok-site.ensures reads in
    rw (p.1, p.2)
    (inr (subst
    (λ (s : SiteState). IsOwnMissing 2 c.args.own s c.args.delta.now.cells
    c.in_err-check_own.field-0.0) same
    (subst
    (λ (rows : Entries). IsOwnMissing 2 c.args.own c.in_ok-site.site rows
    c.in_err-check_own.field-0.0) c.cells-2.ensures c.in_err-check_own.ensures.err)))

-- it has none
pub returns : goal.returns
returns c = λ read reads mine.
    let same = one_site c.args.site.now c.in_ok-site.site read c.in_ok-site.ensures reads in
    subst (λ (s : SiteState). LacksNoOwn c.args.own s c.args.delta.now.cells) same
    (subst (LacksNoOwn c.args.own c.in_ok-site.site) c.cells-2.ensures
    c.in_ok-check_own.ensures.ok)
