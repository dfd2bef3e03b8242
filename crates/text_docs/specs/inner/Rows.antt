-- All rows of a text.
use Rattle.std.specs.Prelude.{◌≡◌, ◌≤◌, ◌++◌, ℕ, All, List, drop, false, length}
use Rattle.row_docs.specs.EntriesValid.{AreKeptCells}
use Rattle.text_docs.specs.RowsCompact.{CompactRow, IsCompactRow, entries, rows_text}
use Rattle.text_docs.specs.Rows.{opening, IsTail}

-- the text is these rows, with what comes before and after them
pub record AreRows (text : List ℕ) (rows : List CompactRow) (tail : List ℕ) : Type 0 where
  pub whole : text ≡ opening ++ (rows_text false rows ++ tail)
  pub is_tail : IsTail tail
  pub each : All IsCompactRow rows
  pub kept : AreKeptCells (entries rows)

-- all rows of the text lie between these places, where it has some
pub record AreRowsAt (text : List ℕ) (start end : ℕ) : Type 0 where
  pub ordered : start ≤ end
  pub within : end ≤ length text
  pub begin : (rows : List CompactRow) (tail : List ℕ) → AreRows text rows tail
      → drop start text ≡ rows_text false rows ++ tail
  pub finish : (rows : List CompactRow) (tail : List ℕ) → AreRows text rows tail
      → drop end text ≡ tail
