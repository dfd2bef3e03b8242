-- The rows of a site on both sides of one key.
use Rattle.std.specs.Prelude.{◌≡◌, filter, true}
use Rattle.std.specs.declared.cmp.Ordering.TheVariants.{Less}
use Rattle.std.specs.Ordering.{is_gt, is_lt}
use Rattle.cell_core.specs.Entry.{EntryKey, key_cmp}
use Rattle.catalogue.specs.Entries.{Entries, IsAboveAll}
use Rattle.catalogue.specs.CatalogueLatest.{latest_of}
use Rattle.site_docs.specs.RowsDraft.{HoldsRows}
use Rattle.docs_core.specs.declared.call.edited_rows.EditedRows.{EditedRows}

-- the entries whose keys are less than this one
abbrev pub before_key : EntryKey → Entries → Entries
before_key key cells = filter (λ e. is_lt (key_cmp e.0 key)) cells

-- the entries whose keys are greater
abbrev pub after_key : EntryKey → Entries → Entries
after_key key cells = filter (λ e. is_gt (key_cmp e.0 key)) cells

-- the rows of these cells on both sides of the key, and the latest stamp of all; where the key is
-- passed each key that comes after them is greater
abbrev pub HoldsEdited : EditedRows → EntryKey → Entries → Type 0
HoldsEdited state key cells = HoldsRows state.before (before_key key cells)
    × HoldsRows state.after (after_key key cells) × (state.latest ≡ latest_of cells)
    × ((q : EntryKey) → IsAboveAll q cells → state.is_passed ≡ true → key_cmp key q ≡ Less)
