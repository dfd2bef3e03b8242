-- The live labels that are still to come.
use Rattle.std.specs.Prelude.{[], Option, Some, None}
use Rattle.lang_core.specs.declared.lang.Lang.{Lang}
use Rattle.cell_core.specs.declared.cell.Cell.{Cell}
use Rattle.cell_core.specs.declared.keyed.iter.Iter.{Iter}
use Rattle.cell_core.specs.Iter.{entries_left}
use Rattle.catalogue.specs.declared.labels.Labels.{Labels}
use Rattle.catalogue.specs.Live.{Labelled, live_of}

-- the live labels among the cells left
abbrev pub live_left : Iter Lang Cell → Labelled
live_left cells = live_of (entries_left cells)

-- the same; none where the message has no cells
abbrev pub live_left_if : Option (Iter Lang Cell) → Labelled
live_left_if None = []
live_left_if (Some cells) = live_left cells

-- the live labels that the iterator has still to give
abbrev pub labels_left : Labels → Labelled
labels_left l = live_left_if l.cells
