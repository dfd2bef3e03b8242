use Rattle.std.specs.Prelude.{ℕ, ◌≡◌, ◌==◌, ◌||◌, Bool, IsTrue, List, [], ◌∷◌, ◌++◌}
use Rattle.std.specs.List.{list_all}
use Rattle.std.specs.Prelude.{◌≤◌, ◌+◌, ◌-◌, ◌*◌, ◌⊎◌}
use Rattle.std.specs.Prelude.{length, slice_index}
use Rattle.lang_core.specs.Grammar.{is_digit}

-- RFC 9110 section 5.6.3: OWS = *( SP / HTAB )
abbrev pub is_blank : ℕ → Bool
is_blank b = (b == 32) || (b == 9)

-- blanks alone, or nothing: OWS
abbrev pub AreBlanks : List ℕ → Type 0
AreBlanks text = IsTrue (list_all is_blank text)

-- The digits after the point, filled up to three with zeros: a digit that is not there counts 0.
abbrev pub thousandths : List ℕ → ℕ
thousandths digits =
    100 * (slice_index digits 0 - 48) + 10 * (slice_index digits 1 - 48)
    + (slice_index digits 2 - 48)

-- the digit "0" (48), which alone may follow "1." in a qvalue
abbrev pub is_zero_digit : ℕ → Bool
is_zero_digit b = b == 48

-- RFC 9110 section 12.4.2: qvalue = ( "0" [ "." 0*3DIGIT ] ) / ( "1" [ "." 0*3("0") ] ), in
-- thousandths
abbrev pub IsQvalue : List ℕ → ℕ → Type 0
IsQvalue [] n = ⊥
IsQvalue (b ∷ []) n = ((b ≡ 48) × (n ≡ 0)) ⊎ ((b ≡ 49) × (n ≡ 1000))
IsQvalue (b ∷ point ∷ digits) n = (point ≡ 46) × (length digits ≤ 3)
    × (((b ≡ 48) × IsTrue (list_all is_digit digits) × (n ≡ thousandths digits))
    ⊎ ((b ≡ 49) × IsTrue (list_all is_zero_digit digits) × (n ≡ 1000)))

-- RFC 9110 section 12.4.2: weight = OWS ";" OWS "q=" qvalue, "q" in either case
pub record HasWeight (text : List ℕ) (n : ℕ) : Type 0 where
  pub before : List ℕ
  pub after : List ℕ
  pub letter : ℕ
  pub qvalue : List ℕ
  pub whole : text ≡ before ++ 59 ∷ (after ++ letter ∷ 61 ∷ qvalue)
  pub before_ok : AreBlanks before
  pub after_ok : AreBlanks after
  pub letter_ok : (letter ≡ 113) ⊎ (letter ≡ 81)
  pub qvalue_ok : IsQvalue qvalue n

-- a weight or none, which is 1000
abbrev pub IsWeight : List ℕ → ℕ → Type 0
IsWeight text n = ((text ≡ []) × (n ≡ 1000)) ⊎ HasWeight text n

-- no weight, which is 1000
abbrev pub IsNoWeight : List ℕ → ℕ → Type 0
IsNoWeight text n = (text ≡ []) × (n ≡ 1000)
