-- When one hash bucket has too many ranges.
use Rattle.std.specs.Prelude.{ℕ, ◌<◌, ◌==◌, List, count_by}

-- more than so many of the numbers are of one bucket
abbrev pub IsCrowded : ℕ → List ℕ → Type 0
IsCrowded most numbers = (bucket : ℕ) × (most < count_by (λ n. n == bucket) numbers)
