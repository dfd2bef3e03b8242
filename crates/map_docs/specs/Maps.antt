-- Language maps as one list of labels, in ascending order of key.
use Rattle.std.specs.Prelude.{ℕ, List}
use Rattle.cell_core.specs.Entry.{EntryKey}

-- a message's id and a language, with the texts of their label
abbrev pub Labelled : Type 0
Labelled = EntryKey × List (List ℕ)
