-- Rows that are entries in ascending order of key: their tests, and what they make. Project rule.
use Rattle.std.specs.Prelude.{◌≡◌, ℕ, true, List, [], ◌∷◌, ◌++◌, ◌-◌, length, map, slice_get}
use Rattle.std.specs.Prelude.{Option, None, Some, is_some, unwrap_or, option_map, option_and_then}
use Rattle.serde_json.specs.Data.{Data}
use Rattle.cell_core.specs.declared.stamp.Stamp.{Stamp}
use Rattle.cell_core.specs.Keyed.{IsMap}
use Rattle.cell_core.specs.Entry.{EntryKey, key_cmp}
use Rattle.catalogue.specs.Entries.{Entry}
use Rattle.json_docs.specs.FaultChecks.{Check, check}
use Rattle.json_docs.specs.declared.fault.DocCause.TheVariants.{Shape}
use Rattle.row_docs.specs.Fields.{cell_fields, entry_of, key_of, order_check, stamp_fields}
use Rattle.row_docs.specs.Fields.{stamped_of}
use Rattle.row_docs.specs.ShapesRows.{cell_in, stamp_in}
use Rattle.row_docs.specs.EntriesValues.{Row}
use Rattle.row_docs.specs.declared.version.Version.{Version}
use Rattle.json_docs.specs.declared.fault.Spot.TheVariants as spot

-- the entry of a row of a site or a delta
abbrev pub entry_in : Version → Data → Option Entry
entry_in version d = option_map (λ p. entry_of p.0 p.1) (cell_in version d)

-- the key and the stamp of a row of a summary
abbrev pub stamped_in : Version → Data → Option (EntryKey × Stamp)
stamped_in version d = option_map stamped_of (stamp_in version d)

-- the key of the last row
abbrev pub last_key : {J : Type 0} → (Data → Option (EntryKey × J)) → List Data → Option EntryKey
last_key entry rows =
    option_map (λ e. e.0) (option_and_then entry (slice_get rows (length rows - 1)))

-- each row is the entry at its place
abbrev pub AreEntries : {J : Type 0} → (Data → Option (EntryKey × J)) → List Data
    → List (EntryKey × J) → Type 0
AreEntries entry rows entries = map entry rows ≡ map Some entries

-- the empty row, in place of data that are no row
abbrev pub no_row : Row
no_row = record { id = []; language = []; time = 0; site = []; count = 0 }

-- the parts of a row of a site or a delta, with its label; the empty row where the shape is another
abbrev pub cell_row : Version → Data → Row × Option (List (List ℕ))
cell_row version d = unwrap_or (cell_in version d) (no_row, None)

-- the parts of a row of a summary; the empty row where the shape is another
abbrev pub stamp_row : Version → Data → Row
stamp_row version d = unwrap_or (stamp_in version d) no_row

-- the tests of the k-th row of a site or a delta by itself
abbrev pub own_cell_checks : Version → ℕ → Data → List Check
own_cell_checks version k d =
    check (is_some (cell_in version d) ≡ true) (Shape (spot.Row k))
    ∷ cell_fields k (cell_row version d).0 (cell_row version d).1

-- the tests of the k-th row of a summary by itself
abbrev pub own_stamp_checks : Version → ℕ → Data → List Check
own_stamp_checks version k d =
    check (is_some (stamp_in version d) ≡ true) (Shape (spot.Row k))
    ∷ stamp_fields k (stamp_row version d)

-- the tests of a row of a site or a delta after these rows, in their order
abbrev pub cell_checks : Version → List Data → Data → List Check
cell_checks version before d =
    own_cell_checks version (length before) d
    ++ order_check (length before) (last_key (entry_in version) before)
    (key_of (cell_row version d).0) ∷ []

-- the tests of a row of a summary after these rows, in their order
abbrev pub stamp_checks : Version → List Data → Data → List Check
stamp_checks version before d =
    own_stamp_checks version (length before) d
    ++ order_check (length before) (last_key (stamped_in version) before)
    (key_of (stamp_row version d)) ∷ []

-- these rows make these entries, whose keys ascend
pub record MakesEntries {J : Type 0} (entry : Data → Option (EntryKey × J)) (rows : List Data)
    (entries : List (EntryKey × J)) : Type 0 where
  pub are : AreEntries entry rows entries
  pub ascending : IsMap key_cmp entries
