-- What changed between two catalogues.
use Rattle.std.specs.Prelude.{◌≡◌, Bool, List, Option, Some, None, if◌then◌else◌, map}
use Rattle.std.specs.Option.{option_eq}
use Rattle.std.specs.FinMap.Entries.{find}
use Rattle.cell_core.specs.declared.cell.Cell.{Cell}
use Rattle.cell_core.specs.Keyed.{IsMap}
use Rattle.cell_core.specs.Entry.{EntryKey, key_cmp}
use Rattle.catalogue.specs.Entries.{Entries}
use Rattle.catalogue.specs.Equality.{cell_eq}

-- what two catalogues, before and after, have at a key
abbrev pub Sides : Type 0
Sides = Option Cell × Option Cell

-- keys, each with what two catalogues have there
abbrev pub Changed : Type 0
Changed = List (EntryKey × Sides)

-- both have equal cells, or neither has one
abbrev pub is_same : Option Cell → Option Cell → Bool
is_same = option_eq cell_eq

-- what they have, where that is not equal
abbrev pub change_of : Option Cell → Option Cell → Option Sides
change_of before after = if is_same before after then None else Some (before, after)

-- one entry for each key whose cells are not equal, or that one of them lacks, in ascending order
pub record AreChanges (before after : Entries) (changes : Changed) : Type 0 where
  pub ascend : IsMap key_cmp changes
  pub each : (key : EntryKey)
      → find key_cmp key changes ≡ change_of (find key_cmp key before) (find key_cmp key after)

-- what is at a key once its change, if there is one, is made
abbrev pub made_at : Option Sides → Option Cell → Option Cell
made_at None cell = cell
made_at (Some change) cell = change.1

-- the catalogue before with the changes made
pub record AreMade (before : Entries) (changes : Changed) (after : Entries) : Type 0 where
  pub ascend : IsMap key_cmp after
  pub each : (key : EntryKey)
      → find key_cmp key after ≡ made_at (find key_cmp key changes) (find key_cmp key before)

-- before and after exchanged
abbrev pub exchanged : Changed → Changed
exchanged changes = map (λ e. (e.0, (e.1.1, e.1.0))) changes
