-- Edits that change nothing.
use Rattle.std.specs.Prelude.{◌≡◌, false, Option, Some, None}
use Rattle.std.specs.Ordering.{is_lt}
use Rattle.std.specs.FinMap.Entries.{find}
use Rattle.cell_core.specs.declared.cell.Cell.{Cell}
use Rattle.cell_core.specs.Cell.{AgreeCells}
use Rattle.cell_core.specs.Stamp.{stamp_cmp}
use Rattle.cell_core.specs.Entry.{key_cmp}
use Rattle.catalogue.specs.Entries.{Entry, Entries}

-- a cell is held that agrees and is not older
abbrev pub IsSettledBy : Option Cell → Cell → Type 0
IsSettledBy None c = ⊥
IsSettledBy (Some mine) c = AgreeCells mine c × (is_lt (stamp_cmp mine.stamp c.stamp) ≡ false)

-- the cell held at the edit's key agrees with the edit's, and is not older
abbrev pub IsSettledIn : Entries → Entry → Type 0
IsSettledIn es e = IsSettledBy (find key_cmp e.0 es) e.1
