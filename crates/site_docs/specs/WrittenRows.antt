-- Rows that are read one after another.
use Rattle.std.specs.Prelude.{◌≡◌, ◌+◌, ◌++◌, ◌∷◌, [], ℕ, IsUtf8, List, MatchOption}
use Rattle.std.specs.Prelude.{codes, false, length, option_map, ⊤}
use Rattle.std.specs.List.{cons_option}
use Rattle.json.specs.Print.{quoted}
use Rattle.serde_json.specs.Written.{compact_text}
use Rattle.catalogue.specs.Entries.{Entries, Entry, IsAboveAll}
use Rattle.row_docs.specs.Entries.{cells_values, entry_value}
use Rattle.row_docs.specs.Fields.{stamp_of}
use Rattle.row_docs.specs.EntriesValid.{AreKeptCells, IsKeptCell}
use Rattle.site_docs.specs.Plain.{open_items}
use Rattle.site_docs.specs.PlainRows.{IsSpelled, entry_in, row_in}
use Rattle.site_docs.specs.Sink.{IsLabelRef, texts_of}
use Rattle.site_docs.specs.declared.plain.written_rows.ReadRow.{ReadRow}
use Rattle.site_docs.specs.declared.plain.written_rows.WrittenRow.{WrittenRow}
use Rattle.site_docs.specs.declared.plain.written_rows.WrittenRows.{WrittenRows}

-- the entry of a row that was read
abbrev pub entry_at : ReadRow → Entry
entry_at row = entry_in row.spelled.front (texts_of row.label)

-- the cell of the row that was read last, if any
abbrev pub current_of : WrittenRows → Entries
current_of rows = cons_option (option_map entry_at rows.row) []

-- how much is left, which each row makes less
abbrev pub left_in : WrittenRows → ℕ
left_in rows = length rows.rest.now + length (current_of rows)

-- the row is that of its entry, as every catalogue keeps it
pub record IsRead (row : ReadRow) : Type 0 where
  pub spelled : IsSpelled row.spelled
  pub stamp : row.stamp ≡ stamp_of (row_in row.spelled.front)
  pub label : IsLabelRef row.label
  pub kept : IsKeptCell (entry_at row)
  pub text : row.text.now ≡ compact_text (entry_value (entry_at row))

-- the row that was read last is that of the last of these cells
abbrev pub IsLastRead : Entries → ReadRow → Type 0
IsLastRead cells row = IsRead row
    × ((before : Entries) × (cells ≡ before ++ entry_at row ∷ [])
    × IsAboveAll (entry_at row).0 before)

-- the document begins with the rows of these cells, which are read
pub record HasRead (bytes : List ℕ) (rows : WrittenRows) (cells : Entries) : Type 0 where
  pub body : List ℕ
  pub opening : bytes ≡ 123 ∷ (quoted (codes "cells") ++ 58 ∷ body)
  pub utf8 : IsUtf8 bytes
  pub text : body ≡ 91 ∷ (open_items false (cells_values cells) ++ rows.rest.now)
  pub kept : AreKeptCells cells
  pub last : MatchOption rows.row ⊤ (IsLastRead cells)

-- the key and the cell
abbrev pub entry_of : WrittenRow → Entry
entry_of row = (
  (row.id.now, row.lang.now),
  record {
    stamp = row.stamp;
    label = texts_of row.label.now;
  },
)

-- the row is the text of its cell, which every catalogue keeps so
pub record IsRowText (row : WrittenRow) : Type 0 where
  pub label : IsLabelRef row.label.now
  pub kept : IsKeptCell (entry_of row)
  pub text : row.text.now ≡ compact_text (entry_value (entry_of row))
