-- Cells that are gathered of others (project rules).
use Rattle.std.specs.Prelude.{◌≡◌, ◌⊎◌}
use Rattle.std.specs.FinMap.Entries.{find}
use Rattle.cell_core.specs.Entry.{EntryKey, key_cmp}
use Rattle.catalogue.specs.Entries.{Entries}

-- the second list has what the cells have at each key that is meant, and where the first has it
abbrev pub HasMore : (EntryKey → Type 0) → Entries → Entries → Entries → Type 0
HasMore Meant cells first second =
    (q : EntryKey) → (find key_cmp q first ≡ find key_cmp q cells) ⊎ Meant q
    → find key_cmp q second ≡ find key_cmp q cells

-- the list has what the cells have at the key, or they have what was there before
abbrev pub IsKnown : Entries → Entries → Entries → EntryKey → Type 0
IsKnown before cells list q =
    (find key_cmp q list ≡ find key_cmp q cells) ⊎ (find key_cmp q cells ≡ find key_cmp q before)

-- each key that is meant is known by the second list, and each that is by the first
abbrev pub KnowsMore : (EntryKey → Type 0) → Entries → Entries → Entries → Entries → Type 0
KnowsMore Meant before cells first second =
    (q : EntryKey) → IsKnown before cells first q ⊎ Meant q → IsKnown before cells second q
