-- Catalogues, sites, deltas and summaries of numbered sites, as documents of version 1 have them,
-- and what they become (project rules).
use Rattle.std.specs.Prelude.{◌≡◌, ℕ, List, Some, map}
use Rattle.std.specs.FinMap.Entries.{find}
use Rattle.cell_core.specs.Keyed.{IsMap, AgreeMaps, joined_maps}
use Rattle.cell_core.specs.SiteName.{padded_name}
use Rattle.cell_core.specs.CellMigration.{OldStamp, IsOldStamp, OldCell, AgreeOldCells}
use Rattle.cell_core.specs.CellMigration.{joined_old_cells, migrated_stamp, migrated_cell}
use Rattle.cata_core.specs.declared.delta.Delta.{Delta}
use Rattle.cell_core.specs.Entry.{EntryKey, key_cmp}
use Rattle.catalogue.specs.Entries.{Agree, Entry, Entries, joined}
use Rattle.cata_core.specs.Delta.{Stamps}
use Rattle.cata_core.specs.Site.{SiteState}
use Rattle.cata_core.specs.Summary.{SummaryState}

-- an entry whose stamp names its site by a number
abbrev pub OldEntry : Type 0
OldEntry = EntryKey × OldCell

-- a catalogue whose stamps name their sites by numbers
abbrev pub OldEntries : Type 0
OldEntries = List OldEntry

-- the keys ascend, and the stamps have sites and counts of 32 bits
pub record IsOldMap (es : OldEntries) : Type 0 where
  pub map : IsMap key_cmp es
  pub stamps : (k : EntryKey) (c : OldCell) → find key_cmp k es ≡ Some c → IsOldStamp c.stamp

-- two such catalogues whose cells agree at each common key
abbrev pub AgreeOld : OldEntries → OldEntries → Type 0
AgreeOld = AgreeMaps key_cmp AgreeOldCells

-- at each key of either the cell with the greater stamp
abbrev pub joined_old : OldEntries → OldEntries → OldEntries
joined_old = joined_maps key_cmp joined_old_cells

-- the same entry with its cell migrated
abbrev pub migrated_entry : OldEntry → Entry
migrated_entry e = (e.0, migrated_cell e.1)

-- the same with the padded names of the sites
abbrev pub migrated_entries : OldEntries → Entries
migrated_entries es = map migrated_entry es

-- two catalogues agree after the migration exactly where they did before, and then their join is
-- the migrated join
pub record KeepsCatalogueJoins (a b : OldEntries) : Type 0 where
  pub agrees : AgreeOld a b → Agree (migrated_entries a) (migrated_entries b)
  pub agreed : Agree (migrated_entries a) (migrated_entries b) → AgreeOld a b
  pub joins : AgreeOld a b
      → migrated_entries (joined_old a b) ≡ joined (migrated_entries a) (migrated_entries b)

-- stamps of numbered sites by keys
abbrev pub OldStamps : Type 0
OldStamps = List (EntryKey × OldStamp)

-- the same stamps with the padded names of their sites
abbrev pub migrated_stamps : OldStamps → Stamps
migrated_stamps stamps = map (λ s. (s.0, migrated_stamp s.1)) stamps

-- ---- sites, deltas and summaries

-- a numbered site with its map
pub record OldSite : Type 0 where
  pub number : ℕ
  pub cells : OldEntries

-- the number of the site that it is for, with a map
pub record OldDelta : Type 0 where
  pub addressee : ℕ
  pub cells : OldEntries

-- the number of the site whose it is, with its stamps
pub record OldSummary : Type 0 where
  pub owner : ℕ
  pub stamps : OldStamps

-- the site with its padded name and its map migrated
abbrev pub migrated_site : OldSite → SiteState
migrated_site s = record { name = padded_name s.number; cells = migrated_entries s.cells }

-- the delta, for the site's padded name, with its map migrated
abbrev pub migrated_delta : OldDelta → Delta
migrated_delta d = record { addressee = padded_name d.addressee; cells = migrated_entries d.cells }

-- the summary, of the site's padded name, with its stamps migrated
abbrev pub migrated_summary : OldSummary → SummaryState
migrated_summary s = record { owner = padded_name s.owner; stamps = migrated_stamps s.stamps }
