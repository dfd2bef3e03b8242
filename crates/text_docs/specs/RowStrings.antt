-- Strings as any program may write them (RFC 8259, section 7).
use Rattle.std.specs.Prelude.{◌≡◌, ◌⊎◌, ◌∷◌, ◌++◌, [], ◌&&◌, ◌||◌, ◌==◌, ℕ, All, Bool, List, Some}
use Rattle.std.specs.Prelude.{false, flat_map, nat_le, not, true}
use Rattle.std.specs.Char.{encode_utf8}
use Rattle.json.specs.Text.{code_unit, is_high_surrogate, is_low_surrogate, short_escape}
use Rattle.json.specs.Text.{surrogate_pair}

-- a character as it is written, and the bytes that it means
abbrev pub Character : Type 0
Character = List ℕ × List ℕ

-- no control, no quote and no backslash
abbrev pub is_unescaped : ℕ → Bool
is_unescaped b = nat_le 32 b && not ((b == 34) || (b == 92))

-- a byte that means itself; of a character of several bytes each does
pub record IsUnescaped (c : Character) : Type 0 where
  pub byte : ℕ
  pub plain : is_unescaped byte ≡ true
  pub is : c ≡ (byte ∷ [], byte ∷ [])

-- `\"`, `\\`, `\/`, `\b`, `\f`, `\n`, `\r` or `\t`
pub record IsShortEscape (c : Character) : Type 0 where
  pub letter : ℕ
  pub byte : ℕ
  pub means : short_escape letter ≡ Some byte
  pub is : c ≡ (92 ∷ letter ∷ [], byte ∷ [])

-- `\u` and the four hex digits of this number
pub record IsUnit (written : List ℕ) (unit : ℕ) : Type 0 where
  pub first : ℕ
  pub second : ℕ
  pub third : ℕ
  pub fourth : ℕ
  pub spells : code_unit first second third fourth ≡ Some unit
  pub is : written ≡ 92 ∷ 117 ∷ first ∷ second ∷ third ∷ fourth ∷ []

-- a code point that is no surrogate
pub record IsUnicodeEscape (c : Character) : Type 0 where
  pub unit : ℕ
  pub not_high : is_high_surrogate unit ≡ false
  pub not_low : is_low_surrogate unit ≡ false
  pub written : IsUnit c.0 unit
  pub means : c.1 ≡ encode_utf8 unit

-- a code point as two surrogates
pub record IsSurrogatePair (c : Character) : Type 0 where
  pub high : ℕ
  pub low : ℕ
  pub first : List ℕ
  pub second : List ℕ
  pub is_high : is_high_surrogate high ≡ true
  pub is_low : is_low_surrogate low ≡ true
  pub first_is : IsUnit first high
  pub second_is : IsUnit second low
  pub written : c.0 ≡ first ++ second
  pub means : c.1 ≡ encode_utf8 (surrogate_pair high low)

-- a character that stands for itself, or one of the escapes
abbrev pub IsCharacter : Character → Type 0
IsCharacter c = IsUnescaped c ⊎ (IsShortEscape c ⊎ (IsUnicodeEscape c ⊎ IsSurrogatePair c))

-- some characters as they are written, one after another
abbrev pub as_written : List Character → List ℕ
as_written characters = flat_map (λ (c : Character). c.0) characters

-- what they mean
abbrev pub as_meant : List Character → List ℕ
as_meant characters = flat_map (λ (c : Character). c.1) characters

-- this is written between the quotes of a string that means this text
pub record IsString (written text : List ℕ) : Type 0 where
  pub characters : List Character
  pub each : All IsCharacter characters
  pub written_is : written ≡ as_written characters
  pub text_is : text ≡ as_meant characters
