use Rattle.std.proofs.Common.{◌++◌, List, take}
use Rattle.map_docs.specs.Maps.{Labelled}
use Rattle.query_docs.specs.inner.ByMessage.{cells_of}
use Rattle.query_docs.specs.inner.Draft.{HasWritten}
use Rattle.query_docs.specs.Exporting.{live_labels}
use Rattle.query_docs.proofs.chosen.add_all.Given as goal

-- the labels of the cells so far were added
abbrev pub invariant-loop-cell : goal.invariant-loop-cell
invariant-loop-cell l = (labels : List Labelled) → HasWritten l.fn.draft labels
    → HasWritten l.draft (labels ++ live_labels (cells_of l.id (take l.cell-index l.cells)))
