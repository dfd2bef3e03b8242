-- Weights as they are read, from left to right.
use Rattle.std.specs.Prelude.{ℕ, ◌≡◌, ◌==◌, ◌||◌, not, Bool, false, IsTrue, List, [], ◌∷◌, ◌++◌}
use Rattle.std.specs.Prelude.{if◌then◌else◌}
use Rattle.std.specs.List.{list_all}
use Rattle.std.specs.Prelude.{◌⊎◌}
use Rattle.list_core.specs.Weight.{is_blank, AreBlanks, IsQvalue}

-- a text without the blanks at its front
abbrev pub skip_blanks : List ℕ → List ℕ
skip_blanks [] = []
skip_blanks (b ∷ text) = if is_blank b then skip_blanks text else b ∷ text

-- what ends a range or a qvalue: a blank or a semicolon
abbrev pub is_stop : ℕ → Bool
is_stop b = is_blank b || (b == 59)

-- what ends neither a range nor a qvalue
abbrev pub is_plain : ℕ → Bool
is_plain b = not (is_stop b)

-- a text begins with a stop, or is empty
abbrev pub EndsPlain : List ℕ → Type 0
EndsPlain [] = Unit {0}
EndsPlain (b ∷ text) = is_plain b ≡ false

-- a text is its bytes up to a stop, and the rest
pub record IsCut (text token rest : List ℕ) : Type 0 where
  pub whole : text ≡ token ++ rest
  pub plain : IsTrue (list_all is_plain token)
  pub ends : EndsPlain rest

-- ---- the parts of a weight, from left to right

-- a qvalue, then blanks
pub record IsLastQvalue (text : List ℕ) (n : ℕ) : Type 0 where
  pub qvalue : List ℕ
  pub after : List ℕ
  pub whole : text ≡ qvalue ++ after
  pub after_ok : AreBlanks after
  pub qvalue_ok : IsQvalue qvalue n

-- what may follow a semicolon: OWS "q=" qvalue OWS
pub record FollowsSemicolon (text : List ℕ) (n : ℕ) : Type 0 where
  pub after : List ℕ
  pub letter : ℕ
  pub qvalue : List ℕ
  pub whole : text ≡ after ++ letter ∷ 61 ∷ qvalue
  pub after_ok : AreBlanks after
  pub letter_ok : (letter ≡ 113) ⊎ (letter ≡ 81)
  pub qvalue_ok : IsLastQvalue qvalue n

-- the same without the blanks before it
abbrev pub IsNamedQvalue : List ℕ → ℕ → Type 0
IsNamedQvalue (letter ∷ sign ∷ qvalue) n =
    ((letter ≡ 113) ⊎ (letter ≡ 81)) × (sign ≡ 61) × IsLastQvalue qvalue n
IsNamedQvalue _ n = ⊥

-- what may follow a range: a weight of the grammar, then blanks
pub record IsTail (Weight : List ℕ → ℕ → Type 0) (text : List ℕ) (n : ℕ) : Type 0 where
  pub weight : List ℕ
  pub after : List ℕ
  pub whole : text ≡ weight ++ after
  pub after_ok : AreBlanks after
  pub weight_ok : Weight weight n
