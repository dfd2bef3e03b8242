-- Parts of a document that have all rows of a message. Project rule.
use Rattle.std.specs.Prelude.{◌≡◌, ◌++◌, ℕ, All, List, drop, false, true}
use Rattle.std.specs.declared.cmp.Ordering.TheVariants.{Greater, Less}
use Rattle.cell_core.specs.Entry.{text_cmp}
use Rattle.text_docs.specs.inner.Rows.{AreRows}
use Rattle.text_docs.specs.RowsCompact.{CompactRow, rows_text}

-- from this place on are some last rows; the ids of all others are less than this
pub record BeginsAt (id rest : List ℕ) (rows : List CompactRow) (tail : List ℕ) : Type 0 where
  pub before : List CompactRow
  pub after : List CompactRow
  pub rows_are : rows ≡ before ++ after
  pub rest_is : rest ≡ rows_text false after ++ tail
  pub others : All (λ (row : CompactRow). text_cmp row.entry.0.0 id ≡ Less) before

-- from this place on are the last rows, each with the comma before it; their ids are greater
pub record EndsAt (id rest : List ℕ) (rows : List CompactRow) (tail : List ℕ) : Type 0 where
  pub before : List CompactRow
  pub after : List CompactRow
  pub rows_are : rows ≡ before ++ after
  pub rest_is : rest ≡ rows_text true after ++ tail
  pub others : All (λ (row : CompactRow). text_cmp row.entry.0.0 id ≡ Greater) after

-- where the text has these rows, all rows of the message are from this place on
abbrev pub HasAllFrom : List ℕ → List ℕ → ℕ → Type 0
HasAllFrom text id place = (rows : List CompactRow) (tail : List ℕ) → AreRows text rows tail
    → BeginsAt id (drop place text) rows tail

-- where the text has these rows, all rows of the message are up to this place
abbrev pub HasAllUpTo : List ℕ → List ℕ → ℕ → Type 0
HasAllUpTo text id place = (rows : List CompactRow) (tail : List ℕ) → AreRows text rows tail
    → EndsAt id (drop place text) rows tail
