use Rattle.std.specs.Prelude.{ℕ, ◌≡◌, Option, MatchOption}

-- the one number that the relation gives, or none where it gives none
abbrev pub IsTheOne : Option ℕ → (ℕ → Type 0) → Type 0
IsTheOne r Gives = MatchOption r ((n : ℕ) → ¬ Gives n) (λ n. Gives n × ((m : ℕ) → Gives m → m ≡ n))
