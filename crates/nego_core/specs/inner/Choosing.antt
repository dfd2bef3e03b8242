-- The candidates of one item.
use Rattle.std.specs.Prelude.{ℕ, List, [], Option, Some, None}
use Rattle.std.specs.List.{slice_get}
use Rattle.list_core.specs.Item.{Item}
use Rattle.list_core.specs.Candidates.{candidates_of}

-- the candidates of the item at a place
abbrev pub candidates_at : List Item → ℕ → List (List (List ℕ))
candidates_at items place = of_item (slice_get items place) where
  of_item : Option Item → List (List (List ℕ))
  of_item None = []
  of_item (Some i) = candidates_of i
