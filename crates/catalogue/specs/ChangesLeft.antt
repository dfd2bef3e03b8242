-- The changes that an iterator has still to give.
use Rattle.std.specs.Prelude.{ℕ, List, [], ◌∷◌, Option, Some, None, filter, map, not}
use Rattle.std.specs.Borrow.{Bor}
use Rattle.std.specs.Option.{option_copied}
use Rattle.std.specs.declared.cmp.Ordering.{Ordering}
use Rattle.std.specs.declared.cmp.Ordering.TheVariants.{Less, Equal, Greater}
use Rattle.cell_core.specs.declared.cell.Cell.{Cell}
use Rattle.catalogue.specs.declared.changes.Ahead.{Ahead}
use Rattle.catalogue.specs.declared.changes.BothSides.{BothSides}
use Rattle.catalogue.specs.declared.changes.Change.{Change}
use Rattle.catalogue.specs.declared.changes.Changes.{Changes}
use Rattle.catalogue.specs.Cells.{cells_left}
use Rattle.catalogue.specs.Changes.{Sides, Changed, is_same}
use Rattle.cell_core.specs.Entry.{EntryKey, key_cmp}
use Rattle.catalogue.specs.Entries.{Entry, Entries}
use Rattle.catalogue.specs.Equality.{seen}

-- a key with what both have there
abbrev pub change_seen : Change → EntryKey × Sides
change_seen c = ((c.id.now, c.lang.now), (option_copied c.before, option_copied c.after))

-- an entry that the first alone has
abbrev pub only_before : Entry → EntryKey × Sides
only_before e = (e.0, (Some e.1, None))

-- an entry that the second alone has
abbrev pub only_after : Entry → EntryKey × Sides
only_after e = (e.0, (None, Some e.1))

-- what begins with the smaller of two keys, or with both where they are equal
abbrev pub by_order : Ordering → Changed → Changed → Changed → Changed
by_order Less mine both other = mine
by_order Equal mine both other = both
by_order Greater mine both other = other

-- what an entry of the first and those after it have beside the entries of the second
abbrev pub beside_from : Entry → (Entries → Changed) → Entries → Changed
beside_from mine rest [] = only_before mine ∷ rest []
beside_from mine rest (other ∷ others) =
    by_order (key_cmp mine.0 other.0) (only_before mine ∷ rest (other ∷ others))
    ((mine.0, (Some mine.1, Some other.1)) ∷ rest others)
    (only_after other ∷ beside_from mine rest others)

-- each key of either catalogue, with what both have there
abbrev pub side_by_side : Entries → Entries → Changed
side_by_side [] after = map only_after after
side_by_side (e ∷ before) after = beside_from e (side_by_side before) after

-- those that differ
abbrev pub differing : Changed → Changed
differing sides = filter (λ e. not (is_same e.1.0 e.1.1)) sides

-- an entry and those after it; none, where no entry is seen
abbrev pub ahead_of : Option (Bor (List ℕ) × Bor (List ℕ) × Bor Cell) → Entries → Entries
ahead_of None rest = []
ahead_of (Some e) rest = seen e ∷ rest

-- the entry that was looked at ahead, then those left
abbrev pub ahead_left : Ahead → Entries
ahead_left a = ahead_of a.first (cells_left a.rest)

-- the keys left of both, with what each has there
abbrev pub sides_left : BothSides → Changed
sides_left s = side_by_side (ahead_left s.before) (ahead_left s.after)

-- those left that differ
abbrev pub changes_left : Changes → Changed
changes_left c = differing (sides_left c.sides)
