-- Lists of languages with labels and weights, borrowed and owned.
use Rattle.std.specs.Prelude.{ℕ, List, Option, Some, None, map}
use Rattle.std.specs.Borrow.{Bor}

-- a list of languages with labels and weights that are borrowed, as values
abbrev pub weighed_of : List (Bor (List ℕ) × Bor (List (List ℕ)) × ℕ)
    → List (List ℕ × List (List ℕ) × ℕ)
weighed_of items = map (λ x. (x.0.now, x.1.now, x.2)) items

-- the entry at a place, borrowed, as values
abbrev pub lent_weighed : Option (Bor (List ℕ) × Bor (List (List ℕ)) × ℕ)
    → Option (List ℕ × List (List ℕ) × ℕ)
lent_weighed None = None
lent_weighed (Some x) = Some (x.0.now, x.1.now, x.2)
