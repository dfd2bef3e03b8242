-- What every catalogue and summary in memory keeps: its ids, languages, names and labels are some,
-- and its numbers fit. Project rule.
use Rattle.std.specs.Prelude.{◌<◌, ◌^◌, All}
use Rattle.cell_core.specs.Keyed.{IsMap}
use Rattle.cell_core.specs.MessageId.{IsMessageId}
use Rattle.cell_core.specs.SiteName.{IsSiteName}
use Rattle.cell_core.specs.declared.stamp.Stamp.{Stamp}
use Rattle.lang_core.specs.Lang.{IsLang}
use Rattle.cata_core.specs.Delta.{Stamps}
use Rattle.cell_core.specs.Entry.{EntryKey, key_cmp}
use Rattle.catalogue.specs.Entries.{Entries, Entry}
use Rattle.row_docs.specs.Fields.{IsLabelText}

-- the id, the language and the site's name are some, and time and count fit 64 and 32 bits
pub record IsKept (key : EntryKey) (stamp : Stamp) : Type 0 where
  pub id : IsMessageId key.0
  pub lang : IsLang key.1
  pub time : stamp.time < 2 ^ 64
  pub site : IsSiteName stamp.site
  pub count : stamp.count < 2 ^ 32

-- such an entry, whose texts are a label or a deletion
abbrev pub IsKeptCell : Entry → Type 0
IsKeptCell e = IsKept e.0 e.1.stamp × IsLabelText e.1.label

-- such a key with its stamp
abbrev pub IsKeptStamp : EntryKey × Stamp → Type 0
IsKeptStamp t = IsKept t.0 t.1

-- such entries of a catalogue, in ascending order of key
pub record AreKeptCells (cells : Entries) : Type 0 where
  pub each : All IsKeptCell cells
  pub map : IsMap key_cmp cells

-- such keys with their stamps, of a summary, in ascending order of key
pub record AreKeptStamps (stamps : Stamps) : Type 0 where
  pub each : All IsKeptStamp stamps
  pub map : IsMap key_cmp stamps
