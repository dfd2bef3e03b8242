-- A table of numbers of texts.
use Rattle.std.specs.Prelude.{ℕ, List, ◌≡◌, Bool, true, false, length, Contains, slice_index_or}

-- the numbers of all texts of the list are set in a table of this size
pub record IsTableOf (number : List ℕ → ℕ) (size : ℕ) (list : List (List ℕ))
    (table : List Bool) : Type 0 where
  pub full : length table ≡ size
  pub set : (s : List ℕ) → Contains list s → slice_index_or table (number s) false ≡ true
