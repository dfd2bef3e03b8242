-- Cells that are seen where they are.
use Rattle.std.specs.Prelude.{◌≡◌, ◌++◌, ℕ, List, [], ◌∷◌, IfSome, None, Option, Some, take}
use Rattle.serde_json.specs.Written.{compact_text}
use Rattle.cell_core.specs.Label.{IsLabel}
use Rattle.catalogue.specs.Entries.{Entry}
use Rattle.row_docs.specs.Entries.{entry_value, stamped_value}
use Rattle.row_docs.specs.EntriesValid.{IsKeptCell}
use Rattle.site_docs.specs.declared.sink.CellRef.{CellRef}
use Rattle.site_docs.specs.declared.sink.LabelRef.{LabelRef}
use Rattle.site_docs.specs.declared.sink.LabelRef.TheVariants.{Deleted, Held, Made, Text}

-- the texts of a label; none of a deletion
abbrev pub texts_of : LabelRef → Option (List (List ℕ))
texts_of Deleted = None
texts_of (Text text) = Some (text.now ∷ [])
texts_of (Held label) = Some label.now
texts_of (Made label) = Some label

-- a single text is a label
abbrev pub IsLabelRef : LabelRef → Type 0
IsLabelRef Deleted = Unit {0}
IsLabelRef (Text text) = IsLabel (text.now ∷ [])
IsLabelRef (Held label) = Unit {0}
IsLabelRef (Made label) = Unit {0}

-- the key and the cell
abbrev pub entry_of : CellRef → Entry
entry_of cell = (
  (cell.id.now, cell.lang.now),
  record {
    stamp = cell.stamp;
    label = texts_of cell.label;
  },
)

-- the row, where there is one, is the text of a cell as every catalogue keeps it; its front with a
-- bracket is the text of its stamp
abbrev pub IsRowOf : CellRef → Type 0
IsRowOf cell = IfSome cell.row (λ row. IsKeptCell (entry_of cell)
    × (row.text.now ≡ compact_text (entry_value (entry_of cell)))
    × (take row.front row.text.now ++ 93 ∷ []
    ≡ compact_text (stamped_value ((entry_of cell).0, cell.stamp))))
