use Rattle.std.specs.Prelude.{ℕ, if◌then◌else◌}
use Rattle.std.specs.Char.{is_ascii_alphabetic, is_ascii_digit}

-- what a byte adds to the sum of a text: a letter nothing, a digit 1, any other byte 16
abbrev pub class_of : ℕ → ℕ
class_of b = if is_ascii_alphabetic b then 0 else (if is_ascii_digit b then 1 else 16)
