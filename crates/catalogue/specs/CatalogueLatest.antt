-- The latest stamp of a catalogue (project rule).
use Rattle.std.specs.Prelude.{◌≡◌, ◌≢◌, [], ◌∷◌, Option, Some, None, Contains, MatchOption}
use Rattle.std.specs.declared.cmp.Ordering.TheVariants.{Less}
use Rattle.cell_core.specs.declared.stamp.Stamp.{Stamp}
use Rattle.cell_core.specs.Cell.{joined_stamps}
use Rattle.cell_core.specs.Stamp.{stamp_cmp}
use Rattle.cell_core.specs.Keyed.{joined_if_both}
use Rattle.catalogue.specs.Entries.{Entry, Entries}

-- the latest stamp of the cells; none where there are no cells
abbrev pub latest_of : Entries → Option Stamp
latest_of [] = None
latest_of (e ∷ es) = joined_if_both joined_stamps (Some e.1.stamp) (latest_of es)

-- a cell has the stamp, and none has a later one
pub record IsLatestStamp (cells : Entries) (s : Stamp) : Type 0 where
  pub entry : Entry
  pub held : Contains cells entry
  pub stamp_is : entry.1.stamp ≡ s
  pub latest : (e : Entry) → Contains cells e → stamp_cmp s e.1.stamp ≢ Less

-- there are no cells, or it is their latest stamp
abbrev pub IsLatest : Entries → Option Stamp → Type 0
IsLatest cells latest = MatchOption latest (cells ≡ []) (IsLatestStamp cells)
