use Rattle.std.specs.Prelude.{ℕ, ◌≡◌, ◌+◌, Bool, false, List, [], ◌∷◌, ◌++◌, length, sum_by}
use Rattle.lang_core.specs.Grammar.{AreAll}

-- whether a list begins with a piece that passes the test
abbrev pub begins_with : (List ℕ → Bool) → List (List ℕ) → Bool
begins_with test [] = false
begins_with test (s ∷ more) = test s

-- a list in two: all of its first pieces that pass the test, and the rest, which begins with none
pub record IsSplit (test : List ℕ → Bool) (list run rest : List (List ℕ)) : Type 0 where
  pub whole : list ≡ run ++ rest
  pub each : AreAll test run
  pub ends : begins_with test rest ≡ false

-- the first pieces, all that pass the test, have so many bytes, one counted after each piece
pub record TakesRun (test : List ℕ → Bool) (list : List (List ℕ)) (len : ℕ) : Type 0 where
  pub run : List (List ℕ)
  pub rest : List (List ℕ)
  pub split : IsSplit test list run rest
  pub size : len ≡ sum_by (λ s. length s + 1) run
