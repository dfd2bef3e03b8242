-- Which of two places in the order of lookup is the earlier.
use Rattle.std.specs.Prelude.{ℕ, nat_lt, if◌then◌else◌}

-- the lesser of two places
abbrev pub earlier_of : ℕ → ℕ → ℕ
earlier_of m n = if nat_lt n m then n else m
