-- Texts that take no memory: sixteen bytes, and the number that they spell.
use Rattle.std.specs.Prelude.{ℕ, ◌&&◌, nat_lt, Bool, IsTrue, List, length, ◌≡◌, ◌≤◌, ◌-◌, ◌++◌}
use Rattle.std.specs.Prelude.{replicate, take}
use Rattle.std.specs.List.{list_all}
use Rattle.std.specs.Int.{from_be_bytes, w128}

-- an ASCII byte other than zero
abbrev pub is_nonzero_ascii : ℕ → Bool
is_nonzero_ascii b = nat_lt 0 b && nat_lt b 128

-- a text of such bytes, as those of tags and ranges are
abbrev pub IsNonzeroAscii : List ℕ → Type 0
IsNonzeroAscii text = IsTrue (list_all is_nonzero_ascii text)

-- ---- a text of at most sixteen bytes: with its length, and with zero bytes after it

-- a text that sixteen bytes can keep
abbrev pub IsShort : List ℕ → Type 0
IsShort text = (length text ≤ 16) × IsNonzeroAscii text

-- a text with zero bytes after it, sixteen bytes in all
abbrev pub filled : List ℕ → List ℕ
filled text = text ++ replicate (16 - length text) 0

-- the number that the sixteen bytes spell, the first of them the highest
abbrev pub spelled_number : List ℕ → ℕ
spelled_number text = from_be_bytes w128 (filled text)

-- the first bytes, so many, are a text, and zero bytes follow it
pub record KeepsShort (bytes : List ℕ) (len : ℕ) : Type 0 where
  pub short : len ≤ 16
  pub size : length (take len bytes) ≡ len
  pub nonzero : IsNonzeroAscii (take len bytes)
  pub zeros : filled (take len bytes) ≡ bytes
