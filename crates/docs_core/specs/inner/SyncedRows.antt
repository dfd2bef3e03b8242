-- The rows of a site that are joined with those of another document as both are read.
use Rattle.std.specs.Prelude.{◌≡◌, ◌≢◌, ℕ, List, [], ◌∷◌, ◌++◌, MatchOption, None, Option, Some, ⊤}
use Rattle.std.specs.declared.cmp.Ordering.{Ordering}
use Rattle.std.specs.declared.cmp.Ordering.TheVariants.{Greater, Less}
use Rattle.cell_core.specs.Stamp.{stamp_cmp}
use Rattle.cell_core.specs.declared.cell.Cell.{Cell}
use Rattle.cell_core.specs.Entry.{EntryKey, key_cmp}
use Rattle.catalogue.specs.Entries.{Entries}
use Rattle.site_docs.specs.RowsDraft.{HoldsRows}
use Rattle.site_docs.specs.WrittenRows.{HasRead, current_of}
use Rattle.site_docs.specs.declared.plain.written_rows.WrittenRows.{WrittenRows}
use Rattle.site_docs.specs.declared.rows_draft.RowsDraft.{RowsDraft}
use Rattle.docs_core.specs.inner.JoinedRows.{IsJoining, IsJoiningAll, IsJoiningBefore}
use Rattle.site_docs.specs.declared.checks.Checks.{Checks}
use Rattle.site_docs.specs.declared.checks.OwnEdits.{OwnEdits}
use Rattle.site_docs.specs.declared.checks.OwnEdits.TheVariants.{Checked, Unchecked}
use Rattle.site_docs.specs.RowsInTime.{AreInTime}
use Rattle.cata_core.specs.OwnEdits.{LacksNoEdit}
use Rattle.docs_core.specs.declared.call.synced_rows.SyncedRows.{SyncedRows}
use Rattle.docs_core.specs.declared.call.synced_rows.Tests.{Tests}

-- how the key of the first of these is ordered to this one; greater where there is none
abbrev pub order_to : EntryKey → Entries → Ordering
order_to key [] = Greater
order_to key (e ∷ es) = key_cmp e.0 key

-- ---- a site's own edits

-- the site of this name, if one is tested, has these cells and lacks none of the rows that it made
abbrev pub LacksNone : Option (List ℕ) → Entries → Entries → Type 0
LacksNone None cells rows = ⊤
LacksNone (Some name) cells rows = LacksNoEdit name cells rows

-- neither site lacks an edit of its own that the other has
abbrev pub LackNone : Tests → Entries → Entries → Type 0
LackNone tests first second =
    LacksNone tests.first first second × LacksNone tests.second second first

-- the sites that are tested have these names
abbrev pub AreNames : Tests → List ℕ → List ℕ → Type 0
AreNames tests first second = MatchOption tests.first ⊤ (λ name. name ≡ first)
    × MatchOption tests.second ⊤ (λ name. name ≡ second)

-- the site that is tested, if one is, has another name
abbrev pub IsOfAnother : Option (List ℕ) → List ℕ → Type 0
IsOfAnother name site = MatchOption name ⊤ (λ name. site ≢ name)

-- if the site of this name made the other cell, its own cell is no earlier
abbrev pub IsKept : Option (List ℕ) → Cell → Cell → Type 0
IsKept name own other = MatchOption name ⊤
    (λ name. other.stamp.site ≡ name → stamp_cmp own.stamp other.stamp ≢ Less)

-- of two cells of one key neither is lacked by the site that made it
abbrev pub LackNoneAt : Tests → Cell → Cell → Type 0
LackNoneAt tests first second = IsKept tests.first first second × IsKept tests.second second first

-- if own edits are checked, both sites are tested for theirs
abbrev pub AreOwnTests : OwnEdits → Tests → Type 0
AreOwnTests Unchecked tests = ⊤
AreOwnTests Checked tests = (first second : List ℕ) × (tests.first ≡ Some first)
    × (tests.second ≡ Some second)

-- the rows that were read, but for the one that was read last, and what was seen lack none
pub record AreTested (tests : Tests) (last read seen : Entries) : Type 0 where
  pub taken : Entries
  pub all : read ≡ taken ++ last
  pub lack : LackNone tests seen taken

-- the rows are tested for what the checks ask for
abbrev pub AreTestsOf : Checks → Tests → Type 0
AreTestsOf checks tests = (tests.not_after ≡ checks.not_after) × AreOwnTests checks.own_edits tests

-- nothing is tested
abbrev pub untested : Tests
untested = record { not_after = None; first = None; second = None }

-- ---- rows

-- These cells of the document are read and pass the tests, and the draft has the rows of both; of
-- those that were read all but the last are joined.
pub record IsSynced (Joins : Entries → Entries → Entries → Entries → Type 0) (tests : Tests)
    (bytes : List ℕ) (rows : WrittenRows) (draft : RowsDraft) (seen : Entries) : Type 0 where
  pub read : Entries
  pub both : Entries
  pub has_read : HasRead bytes rows read
  pub in_time : AreInTime tests.not_after read
  pub tested : AreTested tests (current_of rows) read seen
  pub joins : Joins (current_of rows) read seen both
  pub holds : HoldsRows draft both

-- what was seen is joined
abbrev pub IsSyncedTo : Tests → List ℕ → WrittenRows → RowsDraft → Entries → Type 0
IsSyncedTo = IsSynced IsJoining

-- so are those of the other document before a key
abbrev pub IsSyncedBefore : EntryKey → Tests → List ℕ → WrittenRows → RowsDraft → Entries
    → Type 0
IsSyncedBefore key = IsSynced (IsJoiningBefore key)

-- all of the site was seen
abbrev pub IsSyncedAll : Tests → List ℕ → WrittenRows → RowsDraft → Entries → Type 0
IsSyncedAll = IsSynced IsJoiningAll

-- the rows of both are written, unless the rows of the other document are given up
abbrev pub HoldsSynced : SyncedRows → Entries → Type 0
HoldsSynced synced seen = MatchOption synced.rows ⊤
    (λ rows. IsSyncedTo synced.tests synced.other.now rows synced.draft seen)
