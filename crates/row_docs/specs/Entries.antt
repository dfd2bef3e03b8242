-- The entries of a catalogue and of a summary as rows of documents of version 2. Project rule.
use Rattle.std.specs.Prelude.{List, map}
use Rattle.serde_json.specs.Data.{Data}
use Rattle.cell_core.specs.declared.stamp.Stamp.{Stamp}
use Rattle.cata_core.specs.Delta.{Stamps}
use Rattle.cell_core.specs.Entry.{EntryKey}
use Rattle.catalogue.specs.Entries.{Entries, Entry}
use Rattle.row_docs.specs.EntriesValues.{Row, cell_value, stamp_value}

-- the key and the stamp of an entry
abbrev pub row_of : Entry → Row
row_of entry = record {
  id = entry.0.0;
  language = entry.0.1;
  time = entry.1.stamp.time;
  site = entry.1.stamp.site;
  count = entry.1.stamp.count;
}

-- the CELL of an entry
abbrev pub entry_value : Entry → Data
entry_value e = cell_value (row_of e) e.1.label

-- the STAMP of a key
abbrev pub stamped_value : EntryKey × Stamp → Data
stamped_value t = stamp_value (record {
  id = t.0.0;
  language = t.0.1;
  time = t.1.time;
  site = t.1.site;
  count = t.1.count;
})

-- the rows of a catalogue, in the order of its entries
abbrev pub cells_values : Entries → List Data
cells_values cells = map entry_value cells

-- the rows of a summary, in its order
abbrev pub stamps_values : Stamps → List Data
stamps_values stamps = map stamped_value stamps
