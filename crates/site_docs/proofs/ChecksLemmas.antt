-- How the first row is found whose time is after a limit.
use Rattle.std.proofs.Common.{◌≡◌, ◌∙◌, ◌+◌, ◌≤◌, ◌<◌, ◌^◌, ℕ, [], ◌∷◌, ◌++◌, ap, append_assoc}
use Rattle.std.proofs.Common.{arith, length, length-append, refl, subst, sym}
use Rattle.std.specs.Prelude.{All}
use Rattle.std.proofs.lemmas.List.Elements.{All-nil, All-push}
use Rattle.catalogue.specs.Entries.{Entries, Entry}
use Rattle.catalogue.proofs.Basics.{append_nil}
use Rattle.site_docs.specs.RowsInTime.{IsFirstAhead, IsInTime}

-- the cells so far are in the limit, and the row counts them, where all can be counted
pub record IsSearched (cells left : Entries) (limit row : ℕ) : Type 0 where
  pub before : Entries
  pub cells_are : cells ≡ before ++ left
  pub in_time : All (IsInTime limit) before
  pub row_is : length cells < 2 ^ 64 → length before ≡ row

-- no cell was looked at yet
pub searched_none : (cells left : Entries) (limit : ℕ) → left ≡ cells
    → IsSearched cells left limit 0
searched_none cells left limit is = record {
  before = [];
  cells_are = sym is;
  in_time = All-nil
      (IsInTime limit);
  row_is = λ _. refl;
}

-- where none is left all are in the limit
pub searched_all : (cells left : Entries) (limit row : ℕ) → IsSearched cells left limit row
    → left ≡ [] → All (IsInTime limit) cells
searched_all cells left limit row so none =
    subst (All (IsInTime limit)) (sym (so.cells_are ∙ ap (λ (es : Entries). so.before ++ es) none
    ∙ append_nil so.before)) so.in_time

-- one cell more is in the limit
pub searched_next : (cells left rest : Entries) (e : Entry) (limit row next : ℕ)
    → IsSearched cells left limit row → left ≡ e ∷ rest → e.1.stamp.time ≤ limit
    → (row + 1 < 2 ^ 64 → next ≡ row + 1) → IsSearched cells rest limit next
searched_next cells left rest e limit row next so is in_time counted =
    let whole : cells ≡ (so.before ++ e ∷ []) ++ rest = so.cells_are
    ∙ ap (λ (es : Entries). so.before ++ es) is
    ∙ sym (append_assoc so.before (e ∷ []) rest) in record {
      before = so.before ++ e ∷ [];
      cells_are = whole;
      in_time = All-push (IsInTime limit) so.before e so.in_time in_time;
      row_is = λ few.
          let front = length-append so.before (e ∷ []) in
          let all = length-append (so.before ++ e ∷ []) rest in
          let count = ap length whole in
          let here = so.row_is few in
          let one = counted (omega (arith, few, front, all, count, here)) in
          omega (arith, front, here, one);
    }

-- the next cell is the first that is ahead
pub searched_ahead : (cells left rest : Entries) (e : Entry) (limit row : ℕ)
    → IsSearched cells left limit row → left ≡ e ∷ rest → limit < e.1.stamp.time
    → length cells < 2 ^ 64 → IsFirstAhead cells limit row
searched_ahead cells left rest e limit row so is late few = record {
  before = so.before;
  ahead = e;
  after = rest;
  cells_are = so.cells_are ∙ ap (λ (es : Entries). so.before ++ es) is;
  row_is = so.row_is few;
  in_time = so.in_time;
  is_ahead = late;
}
