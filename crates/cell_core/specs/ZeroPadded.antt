-- Texts that are padded with zero bytes to a fixed length (project rules).
use Rattle.std.specs.Prelude.{ℕ, ◌-◌, ◌==◌, List, ◌++◌, length, replicate}
use Rattle.std.specs.List.{before_first}

-- a text, and zero bytes after it up to so many bytes in all
abbrev pub zero_padded : ℕ → List ℕ → List ℕ
zero_padded len text = text ++ replicate (len - length text) 0

-- the text before the zero bytes
abbrev pub before_zeros : List ℕ → List ℕ
before_zeros bytes = before_first (λ b. b == 0) bytes
