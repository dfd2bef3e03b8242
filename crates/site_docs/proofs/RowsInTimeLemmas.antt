-- Rows that are seen one after another under a limit on their times.
use Rattle.std.proofs.Common.{◌∙◌, ◌++◌, [], ◌∷◌, ℕ, None, Option, Some, ap}
use Rattle.std.proofs.Common.{append_assoc}
use Rattle.catalogue.specs.Entries.{Entries, Entry}
use Rattle.site_docs.specs.RowsInTime.{IsFirstAfter}

-- the first row that is after the limit stays so
pub after_stays : (limit : Option ℕ) (cells : Entries) (e : Entry) (row : ℕ)
    → IsFirstAfter limit cells row → IsFirstAfter limit (cells ++ e ∷ []) row
after_stays None cells e row first = first
after_stays (Some limit) cells e row first = record {
  before = first.before;
  ahead = first.ahead;
  after = first.after ++ e ∷ [];
  cells_are =
      ap (λ t. t ++ e ∷ []) first.cells_are
      ∙ append_assoc first.before (first.ahead ∷ first.after) (e ∷ []);
  row_is = first.row_is;
  in_time = first.in_time;
  is_ahead = first.is_ahead;
}
