use Rattle.std.proofs.Common.{◌∙◌, ◌<◌, ◌^◌, List, Option, ap, arith, inl, inr, length}
use Rattle.std.proofs.Common.{subst, sym, ℕ}
use Rattle.std.proofs.lemmas.Result.{err_from_is_err_and}
use Rattle.catalogue.specs.CataFault.{IsRefusal}
use Rattle.catalogue.specs.Entries.{Entries, joined}
use Rattle.cata_core.specs.Site.{SiteState}
use Rattle.row_docs.specs.Reading.{IsOfDocument}
use Rattle.site_docs.specs.Reading.{IsSiteText, RefusesSite}
use Rattle.map_docs.proofs.MapsLabelsLemmas.{else_by}
use Rattle.docs_core.specs.inner.JoinedRows.{HoldsJoined}
use Rattle.site_docs.specs.RowsInTime.{AreInTime, IsTimeAhead}
use Rattle.docs_core.specs.declared.call.joined_rows.JoinedRows.{JoinedRows}
use Rattle.docs_core.proofs.CallsLemmas.{of_call, refused_after}
use Rattle.site_docs.proofs.ChecksRowsFit.{site_fits}
use Rattle.docs_core.proofs.call.sites.sync_documents.Goals as goal

pub check_times-requires : goal.check_times-requires
check_times-requires c =
    let few = site_fits c.args.second.now c.in-Ok.second c.in-Ok.ensures in
    subst (λ (cells : Entries). length cells < 2 ^ 64) (sym c.catalogue-2.ensures) (omega
    (arith, few))

pub check_both-requires : goal.check_both-requires
check_both-requires c =
    let few = site_fits c.args.second.now c.in-Ok.second c.in-Ok.ensures in omega (arith, few)

-- the first document is refused
pub returns-in_err-synced : goal.returns-in_err-synced
returns-in_err-synced c =
    let p = err_from_is_err_and c.from_residual.result
    c.from_residual.ensures.1 in
    rw (p.1, p.2) (else_by c.in_err-synced.ensures (λ why. inl why))

-- both were read at once
pub returns-in-Some : goal.returns-in-Some
returns-in-Some c = rw c.in-Some.is at c.in_ok-synced.ensures

pub returns-in_err-name : goal.returns-in_err-name
returns-in_err-name c =
    let p = err_from_is_err_and c.from_residual-in_err-name.result
    c.from_residual-in_err-name.ensures.1 in
    rw (p.1, p.2) (else_by c.in_err-name.ensures (λ why. inl why))

-- the second document is refused, and before it the first, if it is
pub returns-in-Err : goal.returns-in-Err
returns-in-Err c =
    else_by (refused_after c.args.first.now c.in-Err.fault c.first_refusal.result
    (IsOfDocument 2 (RefusesSite c.args.second.now)) c.first_refusal.ensures c.in-Err.ensures)
    (λ why. elim why [ inl first ↦ inl first | inr read ↦ inr (inl read) ])

-- a time of the first site is ahead
pub returns-in_err-rows : goal.returns-in_err-rows
returns-in_err-rows c =
    let p = err_from_is_err_and c.from_residual-in_err-rows.result
    c.from_residual-in_err-rows.ensures.1 in
    let show = c.in_ok-name.ensures in
    let limit = show.3.0 ∙ c.new-start.ensures.limit in
    let ahead = subst (λ (l : Option ℕ). IsTimeAhead 1 l show.0 c.in_err-rows.field-0.0) limit
    (c.in_err-rows.ensures show.0 show.3.1) in
    rw (p.1, p.2) (inr (inr (inr (inl (
      record { name = c.in_ok-name.name; cells = show.0 },
      c.in-Ok.second,
      show.1,
      c.in-Ok.ensures,
      inl ahead,
    )))))

-- the first site is in time, and a time of the second is ahead
pub returns-in_err-check_times : goal.returns-in_err-check_times
returns-in_err-check_times c =
    let p = err_from_is_err_and c.from_residual-in_err-check_times.result
    c.from_residual-in_err-check_times.ensures.1 in
    let show = c.in_ok-name.ensures in
    let limit = show.3.0 ∙ c.new-start.ensures.limit in
    let timed = c.in_ok-rows.ensures show.0 show.3.1 in
    let first = subst (λ (l : Option ℕ). AreInTime l show.0) limit timed.1 in
    let ahead = subst (λ (cells : Entries). IsTimeAhead 2 c.args.checks.not_after cells
    c.in_err-check_times.field-0.0) c.catalogue-2.ensures c.in_err-check_times.ensures.err in
    rw (p.1, p.2) (inr (inr (inr (inl (
      record { name = c.in_ok-name.name; cells = show.0 },
      c.in-Ok.second,
      show.1,
      c.in-Ok.ensures,
      inr (first, ahead),
    )))))

-- Both sites are in time, and agree: the two texts are the join of their cells under the one name
-- and under the other.
pub returns : goal.returns
returns c =
    let show = c.in_ok-name.ensures in
    let second = c.in-Ok.second in
    let limit = show.3.0 ∙ c.new-start.ensures.limit in
    let timed = c.in_ok-rows.ensures show.0 show.3.1 in
    let same = ap (λ (j : JoinedRows). j.others.now) c.new-start.ensures.sink
    ∙ c.in_ok-joined.ensures ∙ c.catalogue.ensures in
    let holds = subst (λ (r : JoinedRows). HoldsJoined r second.cells show.0) (sym timed.0)
    (subst (λ (o : Entries). HoldsJoined c.in_ok-name.rows.sink o show.0) same show.3.2.1) in
    let docs = c.in_ok-docs.ensures show.0 second.cells holds in (
      record { name = c.in_ok-name.name; cells = show.0 },
      second,
      show.1,
      c.in-Ok.ensures,
      subst (λ (l : Option ℕ). AreInTime l show.0) limit timed.1,
      subst (AreInTime c.args.checks.not_after) c.catalogue-2.ensures
          c.in_ok-check_times.ensures.ok,
      c.in_ok-check_both.ensures (record { name = c.in_ok-name.name; cells = show.0 }) show.1,
      docs.0,
      docs.1,
      subst
          (λ (n : List ℕ). IsSiteText (record { name = n; cells = joined show.0 second.cells })
          c.in_ok-docs.docs.1)
          c.name.ensures docs.2,
    )

-- both sites are in time, and one of them has an edit that the other made and lacks
pub returns-in_err-check_both : goal.returns-in_err-check_both
returns-in_err-check_both c =
    let p = err_from_is_err_and c.from_residual-in_err-check_both.result
    c.from_residual-in_err-check_both.ensures.1 in
    let show = c.in_ok-name.ensures in
    let limit = show.3.0 ∙ c.new-start.ensures.limit in
    let timed = c.in_ok-rows.ensures show.0 show.3.1 in
    let first : SiteState = record { name = c.in_ok-name.name; cells = show.0 } in
    rw (p.1, p.2)
    (else_by (c.in_err-check_both.ensures first show.1)
    (λ missing. inr (inr (inr (
      first,
      c.in-Ok.second,
      show.1,
      c.in-Ok.ensures,
      subst (λ (l : Option ℕ). AreInTime l show.0) limit timed.1,
      subst (AreInTime c.args.checks.not_after) c.catalogue-2.ensures
          c.in_ok-check_times.ensures.ok,
      inl missing,
    )))))

-- both sites are in time, lack no edit of their own, and the join is refused
pub returns-in_err-docs : goal.returns-in_err-docs
returns-in_err-docs c =
    let p = err_from_is_err_and c.from_residual-in_err-docs.result
    c.from_residual-in_err-docs.ensures.1 in
    let show = c.in_ok-name.ensures in
    let second = c.in-Ok.second in
    let limit = show.3.0 ∙ c.new-start.ensures.limit in
    let timed = c.in_ok-rows.ensures show.0 show.3.1 in
    let same = ap (λ (j : JoinedRows). j.others.now) c.new-start.ensures.sink
    ∙ c.in_ok-joined.ensures ∙ c.catalogue.ensures in
    let holds = subst (λ (r : JoinedRows). HoldsJoined r second.cells show.0) (sym timed.0)
    (subst (λ (o : Entries). HoldsJoined c.in_ok-name.rows.sink o show.0) same show.3.2.1) in
    let why = c.in_err-docs.ensures show.0 second.cells holds in
    rw p.1
    (else_by (of_call (IsRefusal show.0 second.cells) c.in_err-docs.field-0.0 p.0 why p.2)
    (λ h. inr (inr (inr (
      record { name = c.in_ok-name.name; cells = show.0 },
      second,
      show.1,
      c.in-Ok.ensures,
      subst (λ (l : Option ℕ). AreInTime l show.0) limit timed.1,
      subst (AreInTime c.args.checks.not_after) c.catalogue-2.ensures
          c.in_ok-check_times.ensures.ok,
      inr (
        c.in_ok-check_both.ensures (record { name = c.in_ok-name.name; cells = show.0 }) show.1,
        h,
      ),
    )))))
