-- Languages with their labels, borrowed.
use Rattle.std.specs.Prelude.{ℕ, List, map}
use Rattle.std.specs.Borrow.{Bor}
use Rattle.catalogue.specs.Live.{Labelled}

-- the borrowed pairs, as values
abbrev pub labelled_of : List (Bor (List ℕ) × Bor (List (List ℕ))) → Labelled
labelled_of items = map (λ x. (x.0.now, x.1.now)) items
