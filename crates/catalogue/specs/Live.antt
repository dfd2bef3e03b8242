-- The live labels of a message.
use Rattle.std.specs.Prelude.{ℕ, List, Option, Bool, map, filter}
use Rattle.std.specs.List.{filter_map}
use Rattle.std.specs.Option.{option_map, is_some}
use Rattle.std.specs.Ordering.{is_eq}
use Rattle.std.specs.FinMap.Entries.{find}
use Rattle.cell_core.specs.declared.cell.Cell.{Cell}
use Rattle.cell_core.specs.Entry.{text_cmp}
use Rattle.catalogue.specs.Entries.{Entries}

-- languages with their labels, in ascending order
abbrev pub Labelled : Type 0
Labelled = List (List ℕ × List (List ℕ))

-- the cells of a message by language
abbrev pub of_message : List ℕ → Entries → List (List ℕ × Cell)
of_message id es = map (λ e. (e.0.1, e.1)) (filter (λ e. is_eq (text_cmp id e.0.0)) es)

-- a language with its label, where the cell has one
abbrev pub labelled : List ℕ × Cell → Option (List ℕ × List (List ℕ))
labelled e = option_map (λ label. (e.0, label)) e.1.label

-- the languages whose cell has a label, each with it: a deletion is not live
abbrev pub live_of : List (List ℕ × Cell) → Labelled
live_of es = filter_map labelled es

-- the live labels of a message: its languages whose cell has a label, each with its label
abbrev pub live : Entries → List ℕ → Labelled
live es id = live_of (of_message id es)

-- the languages alone
abbrev pub languages : Labelled → List (List ℕ)
languages labels = map (λ e. e.0) labels

-- whether a language has a live label
abbrev pub is_live : Labelled → List ℕ → Bool
is_live labels text = is_some (find text_cmp text labels)
