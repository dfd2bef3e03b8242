use Rattle.std.specs.Prelude.{ℕ, ◌≡◌, ◌==◌, ◌≤◌, ◌+◌, zero, suc, codes, sum_by, ◌&&◌, ◌||◌, not}
use Rattle.std.specs.Prelude.{nat_le, Bool, true, false, IsTrue, List, [], ◌∷◌, ◌++◌, length, take}
use Rattle.std.specs.Prelude.{◌⊎◌}
use Rattle.std.specs.List.{list_all, list_any, flat_map, AllByRecursion}
use Rattle.std.specs.Str.{bytes_eq}
use Rattle.lang_core.specs.Text.{joined}
use Rattle.std.specs.Char.{is_ascii_lowercase, is_ascii_digit}

-- A subtag is a text in lower case, without hyphens.

-- RFC 5646 section 2.1, of a text in lower case. ALPHA: "a" to "z"
abbrev pub is_letter : ℕ → Bool
is_letter = is_ascii_lowercase

-- DIGIT: "0" to "9"
abbrev pub is_digit : ℕ → Bool
is_digit = is_ascii_digit

-- alphanum: a letter or a digit
abbrev pub is_alphanum : ℕ → Bool
is_alphanum b = is_letter b || is_digit b

-- low to high characters, all of one kind: low*high KIND
unfoldable pub is_run : (ℕ → Bool) → ℕ → ℕ → List ℕ → Bool
is_run kind low high s = (nat_le low (length s) && nat_le (length s) high) && list_all kind s

-- The pieces of RFC 5646 section 2.1, from here on. A language of 2 or 3 letters, which extlangs
-- may follow: 2*3ALPHA.
unfoldable pub is_short_language : List ℕ → Bool
is_short_language s = is_run is_letter 2 3 s

-- a language of 4 letters, which is reserved, or of 5 to 8: 4ALPHA / 5*8ALPHA
unfoldable pub is_long_language : List ℕ → Bool
is_long_language s = is_run is_letter 4 8 s

-- one subtag of an extlang: 3ALPHA
unfoldable pub is_extlang : List ℕ → Bool
is_extlang s = is_run is_letter 3 3 s

-- script = 4ALPHA
unfoldable pub is_script : List ℕ → Bool
is_script s = is_run is_letter 4 4 s

-- region = 2ALPHA / 3DIGIT
unfoldable pub is_region : List ℕ → Bool
is_region s = is_run is_letter 2 2 s || is_run is_digit 3 3 s

-- variant = 5*8alphanum / (DIGIT 3alphanum)
unfoldable pub is_variant : List ℕ → Bool
is_variant s =
    is_run is_alphanum 5 8 s || (is_run is_alphanum 4 4 s && list_any is_digit (take 1 s))

-- the subtag "x" (120), with which private use begins
unfoldable pub is_x : List ℕ → Bool
is_x (b ∷ []) = b == 120
is_x _ = false

-- singleton: one letter or digit other than "x"
unfoldable pub is_singleton : List ℕ → Bool
is_singleton s = is_run is_alphanum 1 1 s && not (is_x s)

-- what follows a singleton: 2*8alphanum
unfoldable pub is_extension_piece : List ℕ → Bool
is_extension_piece s = is_run is_alphanum 2 8 s

-- what follows the "x" of private use: 1*8alphanum
unfoldable pub is_private_piece : List ℕ → Bool
is_private_piece s = is_run is_alphanum 1 8 s

-- at most one piece
abbrev pub IsAtMostOne : (List ℕ → Bool) → List (List ℕ) → Type 0
IsAtMostOne piece [] = Unit {0}
IsAtMostOne piece (s ∷ []) = IsTrue (piece s)
IsAtMostOne piece (s ∷ t ∷ more) = ⊥

-- any number of pieces
abbrev pub AreAll : (List ℕ → Bool) → List (List ℕ) → Type 0
AreAll piece list = IsTrue (list_all piece list)

-- a head, and at least one piece
abbrev pub IsHeaded : (List ℕ → Bool) → (List ℕ → Bool) → List (List ℕ) → Type 0
IsHeaded head piece (s ∷ t ∷ more) = IsTrue (head s) × AreAll piece (t ∷ more)
IsHeaded head piece _ = ⊥

-- language = 2*3ALPHA ["-" extlang] / 4ALPHA / 5*8ALPHA
abbrev pub IsLanguage : List (List ℕ) → Type 0
IsLanguage [] = ⊥
IsLanguage (s ∷ []) = IsTrue (is_short_language s || is_long_language s)
IsLanguage (s ∷ extlangs) =
    IsTrue (is_short_language s) × AreAll is_extlang extlangs × (length extlangs ≤ 3)

-- extension = singleton 1*("-" (2*8alphanum))
abbrev pub IsExtension : List (List ℕ) → Type 0
IsExtension = IsHeaded is_singleton is_extension_piece

-- privateuse = "x" 1*("-" (1*8alphanum))
abbrev pub IsPrivate : List (List ℕ) → Type 0
IsPrivate = IsHeaded is_x is_private_piece

-- any number of extensions
pub record AreExtensions (list : List (List ℕ)) : Type 0 where
  pub each : List (List (List ℕ))
  pub whole : list ≡ flat_map (λ extension. extension) each
  pub extensions : AllByRecursion IsExtension each

-- nothing, or one private part
abbrev pub IsMaybePrivate : List (List ℕ) → Type 0
IsMaybePrivate list = (list ≡ []) ⊎ IsPrivate list

-- langtag = language ["-" script] ["-" region] *("-" variant) *("-" extension) ["-" privateuse]
pub record IsLangtag (list : List (List ℕ)) : Type 0 where
  pub language : List (List ℕ)
  pub script : List (List ℕ)
  pub region : List (List ℕ)
  pub variants : List (List ℕ)
  pub extensions : List (List ℕ)
  pub private : List (List ℕ)
  pub whole : list ≡ language ++ (script ++ (region ++ (variants ++ (extensions ++ private))))
  pub language_ok : IsLanguage language
  pub script_ok : IsAtMostOne is_script script
  pub region_ok : IsAtMostOne is_region region
  pub variants_ok : AreAll is_variant variants
  pub extensions_ok : AreExtensions extensions
  pub private_ok : IsMaybePrivate private

-- the irregular tags of RFC 5646 section 2.1, in lower case
abbrev pub irregular : List (List ℕ)
irregular =
    codes "en-gb-oed" ∷ codes "i-ami" ∷ codes "i-bnn" ∷ codes "i-default" ∷ codes "i-enochian"
    ∷ codes "i-hak" ∷ codes "i-klingon"
    ∷ codes "i-lux" ∷ codes "i-mingo" ∷ codes "i-navajo" ∷ codes "i-pwn" ∷ codes "i-tao"
    ∷ codes "i-tay" ∷ codes "i-tsu"
    ∷ codes "sgn-be-fr" ∷ codes "sgn-be-nl" ∷ codes "sgn-ch-de" ∷ []

-- whether a text in lower case is one of the irregular tags
unfoldable pub is_irregular : List ℕ → Bool
is_irregular text = list_any (λ tag. bytes_eq tag text) irregular

-- Language-Tag = langtag / privateuse / grandfathered; the regular grandfathered ones are langtags
abbrev pub WellFormed : List (List ℕ) → Type 0
WellFormed list = IsTrue (is_irregular (joined list)) ⊎ (IsPrivate list ⊎ IsLangtag list)

-- ---- the pieces of a list, each at its place

-- each piece, from the place on, is allowed there
abbrev pub are_allowed : (ℕ → List ℕ → Bool) → ℕ → List (List ℕ) → Bool
are_allowed allowed place [] = true
are_allowed allowed place (s ∷ more) = allowed place s && are_allowed allowed (place + 1) more

-- the first piece that is not allowed at its place begins at the offset
pub record IsFirstRefused (allowed : ℕ → List ℕ → Bool) (list : List (List ℕ)) (offset : ℕ) : Type 0
  where
    pub before : List (List ℕ)
    pub piece : List ℕ
    pub after : List (List ℕ)
    pub whole : list ≡ before ++ piece ∷ after
    pub before_ok : IsTrue (are_allowed allowed 0 before)
    pub refused : allowed (length before) piece ≡ false
    pub begins : offset ≡ sum_by (λ s. length s + 1) before

-- any subtag of a tag: 1*8alphanum
abbrev pub tag_piece : ℕ → List ℕ → Bool
tag_piece place s = is_private_piece s

-- what RFC 4647 section 2.1 allows at a place, but for the single "*"
abbrev pub basic_piece : ℕ → List ℕ → Bool
basic_piece zero s = is_run is_letter 1 8 s
basic_piece (suc place) s = is_private_piece s

-- the subtag "*" (42), the wildcard of RFC 4647 section 2.2
unfoldable pub is_star : List ℕ → Bool
is_star (b ∷ []) = b == 42
is_star _ = false

-- what RFC 4647 section 2.2 allows at a place: the same, or "*"
abbrev pub extended_piece : ℕ → List ℕ → Bool
extended_piece place s = is_star s || basic_piece place s

-- at least one piece, and each is allowed at its place
abbrev pub is_list_of : (ℕ → List ℕ → Bool) → List (List ℕ) → Bool
is_list_of allowed [] = false
is_list_of allowed (s ∷ more) = are_allowed allowed 0 (s ∷ more)

-- RFC 4647 section 2.1: (1*8ALPHA *("-" 1*8alphanum)) / "*"
abbrev pub BasicRange : List (List ℕ) → Type 0
BasicRange list = (list ≡ (42 ∷ []) ∷ []) ⊎ IsTrue (is_list_of basic_piece list)

-- RFC 4647 section 2.2: (1*8ALPHA / "*") *("-" (1*8alphanum / "*"))
abbrev pub ExtendedRange : List (List ℕ) → Type 0
ExtendedRange list = IsTrue (is_list_of extended_piece list)
