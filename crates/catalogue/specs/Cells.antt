-- The cells that an iterator has still to give.
use Rattle.std.specs.Prelude.{[], ◌++◌, Option, Some, None}
use Rattle.cell_core.specs.Iter.{entries_left}
use Rattle.catalogue.specs.declared.cells.Cells.{Cells}
use Rattle.catalogue.specs.declared.cells.MessageCells.{MessageCells}
use Rattle.catalogue.specs.Entries.{Entries}
use Rattle.catalogue.specs.CatalogueFlat.{under, flat}

-- the cells left of one message
abbrev pub message_left : MessageCells → Entries
message_left m = under m.id.now (entries_left m.cells)

-- the cells left of the message at hand; none where no message was begun
abbrev pub in_current : Option MessageCells → Entries
in_current None = []
in_current (Some m) = message_left m

-- the cells left of the message at hand, then those of the messages after it
abbrev pub cells_left : Cells → Entries
cells_left c = in_current c.current ++ flat (entries_left c.messages)
