-- The live labels of a message that is seen.
use Rattle.std.specs.Prelude.{ℕ, List, None, Option, Some, option_map}
use Rattle.std.specs.Borrow.{Bor}
use Rattle.std.specs.List.{filter_map}
use Rattle.catalogue.specs.Live.{Labelled}
use Rattle.site_docs.specs.Sink.{texts_of}
use Rattle.query_docs.specs.declared.by_message.MessageCell.{MessageCell}

-- the language of a cell with its label, if it has one
abbrev pub label_of : MessageCell → Option (List ℕ × List (List ℕ))
label_of cell = option_map (λ label. (cell.lang, label)) (texts_of cell.label)

-- the languages that have a label, each with it
abbrev pub labels_of : List MessageCell → Labelled
labels_of cells = filter_map label_of cells

-- the same of a cell that may have been found
abbrev pub found_in : Option (Bor MessageCell) → Option (List ℕ × List (List ℕ))
found_in None = None
found_in (Some cell) = label_of cell.now
