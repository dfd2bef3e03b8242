-- Catalogues as lists of entries in ascending order of key.
use Rattle.std.specs.Prelude.{List}
use Rattle.cell_core.specs.KeyedAbove.{IsAboveAll as IsAboveAllBy}
use Rattle.cell_core.specs.Entry.{EntryKey, key_cmp}
use Rattle.cell_core.specs.declared.cell.Cell.{Cell}
use Rattle.cell_core.specs.Join.{IsBelow}
use Rattle.cell_core.specs.Cell.{AgreeCells, joined_cells}
use Rattle.cell_core.specs.StampLater.{IsEitherOf}
use Rattle.cell_core.specs.Keyed.{AgreeMaps, joined_maps, BetweenMaps}

-- the key is greater than all that are there
abbrev pub IsAboveAll : {J : Type 0} → EntryKey → List (EntryKey × J) → Type 0
IsAboveAll key es = IsAboveAllBy key_cmp key es

-- a key with a cell: an entry of a catalogue, and also an edit; without a label it is a deletion
abbrev pub Entry : Type 0
Entry = EntryKey × Cell

-- a catalogue: entries whose keys ascend
abbrev pub Entries : Type 0
Entries = List Entry

-- two catalogues whose cells agree at each common key
abbrev pub Agree : Entries → Entries → Type 0
Agree = AgreeMaps key_cmp AgreeCells

-- at each key of either the cell with the greater stamp
abbrev pub joined : Entries → Entries → Entries
joined = joined_maps key_cmp joined_cells

-- at each key the first's cell or the join's, and no key but theirs
abbrev pub Between : Entries → Entries → Entries → Type 0
Between = BetweenMaps key_cmp (IsEitherOf joined_cells)

-- the second catalogue is above the first
abbrev pub IsBelowCells : Entries → Entries → Type 0
IsBelowCells = IsBelow Agree joined
