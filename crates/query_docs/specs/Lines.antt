-- The lines of answers. Project rule: a line ends with one line feed, and a label is its compact
-- JSON array.
use Rattle.std.specs.Prelude.{ℕ, List, ◌∷◌, [], ◌++◌, codes, decimal, length, flat_map}
use Rattle.serde_json.specs.Written.{compact_text}
use Rattle.catalogue.specs.Asking.{Weighed}
use Rattle.catalogue.specs.Entries.{Entry, Entries}
use Rattle.cata_core.specs.declared.answer.Answer.{Answer}
use Rattle.cata_core.specs.declared.answer.Answer.TheVariants.{Filter, Lookup, Cells}
use Rattle.catalogue.specs.declared.reply.Reply.{Reply}
use Rattle.catalogue.specs.declared.reply.Reply.TheVariants.{Matched, Default, Nothing}
use Rattle.row_docs.specs.Entries.{row_of}
use Rattle.row_docs.specs.EntriesValues.{cell_value, texts_value}

-- the words, and then a line feed
abbrev pub line : List ℕ → List ℕ
line words = words ++ 10 ∷ []

-- a label: the compact array of its texts
abbrev pub label_text : List (List ℕ) → List ℕ
label_text texts = compact_text (texts_value texts)

-- `WORD N`, then a line for each of the N
abbrev pub listed : {A : Type 0} → List ℕ → (A → List ℕ) → List A → List ℕ
listed word each items = line (word ++ 32 ∷ decimal (length items)) ++ flat_map each items

-- `LANGUAGE WEIGHT LABEL`
abbrev pub weighed_line : List ℕ × List (List ℕ) × ℕ → List ℕ
weighed_line entry = line (entry.0 ++ 32 ∷ (decimal entry.2 ++ 32 ∷ label_text entry.1))

-- `filter N`, then the languages in the order of the answer
abbrev pub filter_lines : Weighed → List ℕ
filter_lines entries = listed (codes "filter") weighed_line entries

-- `WORD LANGUAGE LABEL`
abbrev pub found_line : List ℕ → List ℕ → List (List ℕ) → List ℕ
found_line word lang label = line (word ++ 32 ∷ (lang ++ 32 ∷ label_text label))

-- `matched ..`, `default ..` or `nothing`
abbrev pub reply_line : Reply → List ℕ
reply_line (Matched lang label) = found_line (codes "matched") lang label
reply_line (Default lang label) = found_line (codes "default") lang label
reply_line Nothing = line (codes "nothing")

-- the compact text of the cell's row in a document of version 2
abbrev pub cell_line : Entry → List ℕ
cell_line entry = line (compact_text (cell_value (row_of entry) entry.1.label))

-- `cells N`, then the cells in ascending order of key
abbrev pub cells_lines : Entries → List ℕ
cells_lines cells = listed (codes "cells") cell_line cells

-- the lines of one answer of a run
abbrev pub lines_of : Answer → List ℕ
lines_of (Filter entries) = filter_lines entries
lines_of (Lookup reply) = reply_line reply
lines_of (Cells cells) = cells_lines cells

-- the lines of the answers, in order
abbrev pub lines : List Answer → List ℕ
lines answers = flat_map lines_of answers
