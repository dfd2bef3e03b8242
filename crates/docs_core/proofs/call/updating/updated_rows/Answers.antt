use Rattle.std.proofs.Common.{List, Option, [], inl, subst, sym, ℕ}
use Rattle.std.proofs.lemmas.Option.{IfSome_then}
use Rattle.std.proofs.lemmas.Result.{err_from_is_err_and}
use Rattle.cell_core.specs.Keyed.{IsMap}
use Rattle.cell_core.specs.declared.stamp.Stamp.{Stamp}
use Rattle.cell_core.specs.Entry.{key_cmp}
use Rattle.cata_core.specs.Site.{SiteState}
use Rattle.map_docs.proofs.MapsLabelsLemmas.{else_by}
use Rattle.site_docs.specs.Reading.{ReadsAsSite}
use Rattle.docs_core.specs.inner.FoundChanges.{changes_of}
use Rattle.docs_core.specs.inner.StampedRows.{HoldsStamped}
use Rattle.docs_core.specs.Updating.{AreChanges}
use Rattle.docs_core.specs.declared.call.found_changes.KeyChange.{KeyChange}
use Rattle.docs_core.proofs.FoundChangesLemmas.{found_from}
use Rattle.docs_core.proofs.call.updating.updated_rows.Goals as goal

-- all cells of the site were seen
pub close-requires : goal.close-requires
close-requires c =
    let show = c.in_ok-name.ensures in
    (c.new-start.result.old.now, c.new-start.result.new.now, show.0, show.3.2)

-- the changes ascend
pub with_changes-requires-clause-ascending : goal.with_changes-requires-clause-ascending
with_changes-requires-clause-ascending c =
    let show = c.in_ok-name.ensures in
    let are = c.in_ok-changes.ensures c.new-start.result.old.now c.new-start.result.new.now show.0
    show.3.2 show.2 in
    subst (λ (xs : List KeyChange). IsMap key_cmp (changes_of xs)) (sym c.as_slice.ensures.value)
    are.0.ascending

-- no change is written
pub with_changes-requires-clause-holds : goal.with_changes-requires-clause-holds
with_changes-requires-clause-holds c =
    (c.args.now, c.in_ok-name.name, c.in_ok-changes.stamps.latest, c.in_ok-stamped.ensures.holds)

-- the changes are those of the site, and were written
pub returns : goal.returns
returns c =
    let show = c.in_ok-name.ensures in
    let name = c.in_ok-name.name in
    let start = c.new-start.result in
    let begun = c.in_ok-stamped.ensures in
    let site : SiteState = record { name = name; cells = show.0 } in
    let found = c.in_ok-changes.ensures start.old.now start.new.now show.0 show.3.2 show.2 in
    let changes = changes_of c.as_slice.result.now in
    let are = subst
    (λ (xs : List KeyChange). AreChanges start.old.now start.new.now show.0 (changes_of xs))
    (sym c.as_slice.ensures.value) found.0 in
    IfSome_then c.with_changes.result c.with_changes.ensures (λ doc written.
    let made = written c.args.now name show.0
    (subst (λ (b : List ℕ). ReadsAsSite b site) (sym begun.site) show.1)
    (subst (λ (l : Option Stamp). HoldsStamped c.args.now name l c.in_ok-stamped.stamped [])
    found.1 begun.holds) in (
      site,
      made.0,
      show.1,
      (
        changes,
        found_from start.old.now c.args.old.now start.new.now c.args.new.now show.0 changes
            c.new-start.ensures.old c.new-start.ensures.new are,
        made.1,
      ),
      made.2,
    ))

-- the site is refused
pub returns-in_err-name : goal.returns-in_err-name
returns-in_err-name c =
    let p = err_from_is_err_and c.from_residual.result c.from_residual.ensures.1 in
    rw (p.1, p.2) (else_by c.in_err-name.ensures (λ h. inl h))
