-- What a text in the form that is written begins with.
use Rattle.std.specs.Prelude.{◌≡◌, ◌<◌, ◌≤◌, ◌+◌, ◌++◌, ℕ, List, true, false}
use Rattle.std.specs.Prelude.{decimal, get_or, length, take}
use Rattle.json.specs.Print.{escape_byte}
use Rattle.json.specs.Run.{is_stop}

-- the text begins with the escape of this byte, which is ASCII, and goes on with the rest
abbrev pub IsEscaped : ℕ → List ℕ → List ℕ → Type 0
IsEscaped byte text rest = (text ≡ escape_byte byte ++ rest) × (byte < 128)

-- no byte before this place ends a string or is escaped in it
abbrev pub IsPlainBefore : List ℕ → ℕ → Type 0
IsPlainBefore bytes place = (k : ℕ) → k < place → is_stop (get_or bytes k 0) ≡ false

-- the first byte that ends a string or is escaped in it is at this place
pub record IsFirstStop (bytes : List ℕ) (place : ℕ) : Type 0 where
  pub within : place < length bytes
  pub stops : is_stop (get_or bytes place 0) ≡ true
  pub before : IsPlainBefore bytes place

-- ---- numbers

-- the digit at this place
pub record IsDigitAt (bytes : List ℕ) (place digit : ℕ) : Type 0 where
  pub is : get_or bytes place 0 ≡ 48 + digit
  pub small : digit < 10
  pub within : place < length bytes

-- the first `len` bytes are the number in decimal
pub record IsDecimalFront (bytes : List ℕ) (number len : ℕ) : Type 0 where
  pub is : take len bytes ≡ decimal number
  pub within : len ≤ length bytes
  pub last : (before : ℕ) × (len ≡ before + 1) × (get_or bytes before 0 < 128)
