-- Summaries, and deltas against them.
use Rattle.std.specs.Prelude.{◌≡◌, ◌≢◌, Bool, true, List, Option, Some, None, filter, map}
use Rattle.std.specs.Ordering.{is_lt}
use Rattle.std.specs.declared.cmp.Ordering.TheVariants.{Less}
use Rattle.std.specs.FinMap.Entries.{find}
use Rattle.cell_core.specs.declared.stamp.Stamp.{Stamp}
use Rattle.cell_core.specs.declared.cell.Cell.{Cell}
use Rattle.cell_core.specs.Stamp.{stamp_cmp}
use Rattle.cell_core.specs.Join.{IsBelow}
use Rattle.cell_core.specs.Cell.{AgreeStamps, joined_stamps}
use Rattle.cell_core.specs.Keyed.{IsMap, AgreeMaps, joined_maps}
use Rattle.cell_core.specs.Entry.{EntryKey, key_cmp}
use Rattle.catalogue.specs.Entries.{Entries}

-- stamps by keys that ascend
abbrev pub Stamps : Type 0
Stamps = List (EntryKey × Stamp)

-- the key and the stamp of each cell
abbrev pub summary_of : Entries → Stamps
summary_of = map (λ e. (e.0, e.1.stamp))

-- the summary has nothing of the key, or an older stamp
abbrev pub is_missing : Option Stamp → Stamp → Bool
is_missing None s = true
is_missing (Some known) s = is_lt (stamp_cmp known s)

-- the cells whose key the summary lacks or has with an older stamp
abbrev pub delta_of : Entries → Stamps → Entries
delta_of cells summary = filter (λ e. is_missing (find key_cmp e.0 summary) e.1.stamp) cells

-- a cell is there, with a stamp at least as great
abbrev pub HasAtLeast : Option Cell → Stamp → Type 0
HasAtLeast None s = ⊥
HasAtLeast (Some c) s = stamp_cmp c.stamp s ≢ Less

-- the cells have each key of the summary, with a stamp at least as great
abbrev pub HasAll : Entries → Stamps → Type 0
HasAll own summary =
    (k : EntryKey) (s : Stamp) → find key_cmp k summary ≡ Some s → HasAtLeast (find key_cmp k own) s

-- the second summary is above the first, as maps of stamps
abbrev pub IsBelowStamps : Stamps → Stamps → Type 0
IsBelowStamps = IsBelow (AgreeMaps key_cmp AgreeStamps) (joined_maps key_cmp joined_stamps)

-- a map of some of the cells
pub record IsPart (part cells : Entries) : Type 0 where
  pub map : IsMap key_cmp part
  pub of : (k : EntryKey) (c : Cell) → find key_cmp k part ≡ Some c → find key_cmp k cells ≡ Some c
