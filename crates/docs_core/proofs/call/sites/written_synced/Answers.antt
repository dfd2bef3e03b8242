use Rattle.std.proofs.Common.{◌∙◌, List, Option, ap, subst, sym, ℕ}
use Rattle.std.proofs.lemmas.Option.{IfSome_then}
use Rattle.cata_core.specs.Site.{SiteState}
use Rattle.site_docs.specs.Reading.{ReadsAsSite}
use Rattle.docs_core.specs.inner.SyncedRows.{AreNames, HoldsSynced, LackNone}
use Rattle.site_docs.specs.RowsInTime.{AreInTime}
use Rattle.docs_core.specs.declared.call.synced_rows.SyncedRows.{SyncedRows}
use Rattle.docs_core.specs.declared.call.synced_rows.Tests.{Tests}
use Rattle.docs_core.proofs.SyncedRowsLemmas.{lack_own}
use Rattle.docs_core.proofs.call.sites.written_synced.Goals as goal

-- all of the first site was seen, and joined
pub close_both-requires : goal.close_both-requires
close_both-requires c =
    let show = c.in_ok-name.ensures in
    let timed = c.in-Ok.ensures show.0 show.3.1 in
    (show.0, subst (λ (s : SyncedRows). HoldsSynced s show.0) (sym timed.0) show.3.2.2)

-- both sites are in time, lack none of their own edits if these are checked, and agree
pub returns-in-Ok : goal.returns-in-Ok
returns-in-Ok c =
    let show = c.in_ok-name.ensures in
    let timed = c.in-Ok.ensures show.0 show.3.1 in
    let sink = c.new-start.ensures.sink in
    let limit = show.3.0 ∙ c.new-start.ensures.limit in
    let other = ap (λ (s : SyncedRows). s.other.now) timed.0 ∙ show.3.2.0
    ∙ ap (λ (s : SyncedRows). s.other.now) sink ∙ c.in_ok-synced.ensures.other in
    let tests = ap (λ (s : SyncedRows). s.tests) timed.0 ∙ show.3.2.1
    ∙ ap (λ (s : SyncedRows). s.tests) sink ∙ c.in_ok-synced.ensures.tests in
    let asked = c.in-Some.ensures in
    let first : SiteState = record { name = c.in_ok-name.name; cells = show.0 } in
    IfSome_then c.close_both.result (c.close_both.ensures show.0
    (subst (λ (s : SyncedRows). HoldsSynced s show.0) (sym timed.0) show.3.2.2))
    (λ docs (second, reads, in_time, named, lack, agree, own, others). (
      first,
      second,
      show.1,
      subst (λ (b : List ℕ). ReadsAsSite b second) other reads,
      subst (λ (l : Option ℕ). AreInTime l show.0) limit timed.1,
      subst (λ (l : Option ℕ). AreInTime l second.cells)
          (ap (λ (t : Tests). t.not_after) tests ∙ asked.0) in_time,
      lack_own c.args.checks.own_edits c.in-Some.tests first second asked.1
          (subst (λ (t : Tests). AreNames t first.name second.name) tests named)
          (subst (λ (t : Tests). LackNone t first.cells second.cells) tests lack),
      agree,
      own,
      others,
    ))
