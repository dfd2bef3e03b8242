-- Changes that are made one after another, each with a stamp of its own.
use Rattle.std.specs.Prelude.{◌≡◌, ◌⊎◌, ℕ, List, [], ◌∷◌, Option}
use Rattle.std.specs.FinMap.Entries.{put}
use Rattle.cell_core.specs.Stamp.{IsNext, NoNext}
use Rattle.cell_core.specs.declared.stamp.Stamp.{Stamp}
use Rattle.cell_core.specs.Entry.{EntryKey, key_cmp}
use Rattle.catalogue.specs.Entries.{Entries}
use Rattle.catalogue.specs.CatalogueLatest.{latest_of}

-- a key with the label that it gets, or none where it is deleted
abbrev pub Change : Type 0
Change = EntryKey × Option (List (List ℕ))

-- the cells with this change, which has this stamp
abbrev pub with_change : Change → Stamp → Entries → Entries
with_change e stamp cells = put key_cmp e.0 (record { stamp = stamp; label = e.1 }) cells

-- each change is made at this time with the next stamp of this site after the greatest then held;
-- no other cell changes
abbrev pub Makes : ℕ → List ℕ → List Change → Entries → Entries → Type 0
Makes now name [] old new = new ≡ old
Makes now name (e ∷ es) old new =
    (stamp : Stamp) × IsNext (latest_of old) now name stamp
    × Makes now name es (with_change e stamp old) new

-- some changes could be made so, and for the one after them there is no next stamp
abbrev pub SpendsClock : ℕ → List ℕ → List Change → Entries → Type 0
SpendsClock now name [] old = ⊥
SpendsClock now name (e ∷ es) old =
    NoNext (latest_of old) now name
    ⊎ ((stamp : Stamp) × IsNext (latest_of old) now name stamp
    × SpendsClock now name es (with_change e stamp old))
