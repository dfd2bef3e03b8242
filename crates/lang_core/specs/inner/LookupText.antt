-- The subtags of a range, as its lookup text is built of them.
use Rattle.std.specs.Prelude.{ℕ, List, [], ◌∷◌, ◌++◌}

-- the subtags one after another, each with a hyphen before it
abbrev pub hyphened : List (List ℕ) → List ℕ
hyphened [] = []
hyphened (s ∷ list) = 45 ∷ (s ++ hyphened list)
