-- How a row reads at its place in a document. Project rule.
use Rattle.std.specs.Prelude.{◌≡◌, ◌∷◌, ◌++◌, ◌||◌, ◌==◌, [], ℕ, Bool, List, cond, false, not, true}
use Rattle.std.specs.Char.{is_ascii_alphanumeric}

-- a letter, a digit or "@": what a language begins with
abbrev pub begins_language : ℕ → Bool
begins_language b = is_ascii_alphanumeric b || (b == 64)

-- whether no quote ends a string with these bytes, which go on inside of it or after a backslash
abbrev pub is_unclosed_from : Bool → List ℕ → Bool
is_unclosed_from escaped [] = not escaped
is_unclosed_from true (b ∷ bs) = is_unclosed_from false bs
is_unclosed_from false (b ∷ bs) = cond (b == 34) false (is_unclosed_from (b == 92) bs)

-- whether no quote ends a string within these bytes, of which none is left after a backslash
abbrev pub is_unclosed : List ℕ → Bool
is_unclosed = is_unclosed_from false

-- `],["ID","` and the first byte of a language
pub record ReadsAsRow (text id : List ℕ) : Type 0 where
  pub first : ℕ
  pub rest : List ℕ
  pub text_is : text ≡ 93 ∷ 44 ∷ 91 ∷ 34 ∷ (id ++ 34 ∷ 44 ∷ 34 ∷ first ∷ rest)
  pub unclosed : is_unclosed id ≡ true
  pub language : begins_language first ≡ true
