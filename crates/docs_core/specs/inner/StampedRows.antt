-- Changes that are written with their stamps between the rows of a site.
use Rattle.std.specs.Prelude.{◌≡◌, ◌++◌, ℕ, List, [], ◌∷◌, Option, Some}
use Rattle.cell_core.specs.Stamp.{IsNext}
use Rattle.cell_core.specs.declared.stamp.Stamp.{Stamp}
use Rattle.cell_core.specs.Entry.{EntryKey}
use Rattle.catalogue.specs.Entries.{Entries, IsAboveAll}
use Rattle.docs_core.specs.UpdatingChanges.{Change}
use Rattle.docs_core.specs.inner.SyncedRows.{IsSyncedTo, untested}
use Rattle.docs_core.specs.declared.call.stamped_rows.StampedRows.{StampedRows}

-- the cells are the changes, each with the next stamp of this site at this time, after the last one
abbrev pub AreStamped : ℕ → List ℕ → Option Stamp → List Change → Entries → Type 0
AreStamped now name last [] cells = cells ≡ []
AreStamped now name last (e ∷ es) cells =
    (stamp : Stamp) × (rest : Entries) × IsNext last now name stamp
    × (cells ≡ (e.0, record { stamp = stamp; label = e.1 }) ∷ rest)
    × AreStamped now name (Some stamp) es rest

-- These changes have their stamps after the last one, and whatever comes after them goes on from
-- it. The draft has them as rows, joined with those of the site that were read.
pub record HoldsStamped (now : ℕ) (name : List ℕ) (last : Option Stamp) (stamped : StampedRows)
    (taken : List Change) : Type 0 where
  pub cells : Entries
  pub time : stamped.now ≡ now
  pub site : stamped.name ≡ name
  pub stamps : (changes : List Change) (more : Entries)
      → AreStamped now name stamped.latest changes more
      → AreStamped now name last (taken ++ changes) (cells ++ more)
  pub above : (key : EntryKey) → IsAboveAll key taken → IsAboveAll key cells
  pub synced : IsSyncedTo untested stamped.site.now stamped.rows stamped.draft cells
