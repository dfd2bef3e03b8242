-- Case does not matter.
use Rattle.std.proofs.Common.{ℕ, ◌≡◌, ◌==◌, List, [], ◌∷◌, Bool, true, refl, sym, arith}
use Rattle.std.specs.Prelude.{◌&&◌, map}
use Rattle.std.specs.List.{list_all}
use Rattle.std.specs.Char.{to_ascii_lowercase, is_ascii_alphabetic, is_ascii_alphanumeric}
use Rattle.std.specs.Str.{str_to_ascii_lowercase}
use Rattle.std.proofs.lemmas.Bool.Decides.{nat_tests}
use Rattle.lang_core.specs.Grammar.{is_letter, is_digit, is_alphanum, is_star}
use Rattle.lang_core.proofs.Basics.{each_true}

-- the pieces in lower case
abbrev pub lowered : List (List ℕ) → List (List ℕ)
lowered list = map str_to_ascii_lowercase list

-- Lower case does not change whether a byte is a hyphen.
pub lower_hyphen : (b : ℕ) → (to_ascii_lowercase b == 45) ≡ (b == 45)
lower_hyphen b = grind (arith, nat_tests)

lower_star : (b : ℕ) → (to_ascii_lowercase b == 42) ≡ (b == 42)
lower_star b = grind (arith, nat_tests)

lower_letter : (b : ℕ) → is_letter (to_ascii_lowercase b) ≡ is_ascii_alphabetic b
lower_letter b = grind (arith, nat_tests)

-- Lower case does not change whether a byte is a digit.
pub lower_digit : (b : ℕ) → is_digit (to_ascii_lowercase b) ≡ is_digit b
lower_digit b = grind (arith, nat_tests)

lower_alphanum : (b : ℕ) → is_alphanum (to_ascii_lowercase b) ≡ is_ascii_alphanumeric b
lower_alphanum b = grind (arith, nat_tests)

and_is : (a b c d : Bool) → a ≡ c → b ≡ d → a && b ≡ c && d
and_is a b c d e f = rw (e, f) refl

list_all-lower : (low any : ℕ → Bool) (s : List ℕ) → ((b : ℕ) → low (to_ascii_lowercase b) ≡ any b)
    → list_all low (str_to_ascii_lowercase s) ≡ list_all any s
list_all-lower low any [] same = refl
list_all-lower low any (b ∷ s) same = and_is _ _ _ _ (same b) (list_all-lower low any s same)

-- A text is of letters in any case just where, in lower case, it is of lower-case letters.
pub letters-lower : (s : List ℕ)
    → list_all is_ascii_alphabetic s ≡ list_all is_letter (str_to_ascii_lowercase s)
letters-lower s = sym (list_all-lower is_letter is_ascii_alphabetic s lower_letter)

-- Lower case does not change whether a text is of digits alone.
pub digits-lower : (s : List ℕ) → list_all is_digit s ≡ list_all is_digit (str_to_ascii_lowercase s)
digits-lower s = sym (list_all-lower is_digit is_digit s lower_digit)

-- A text is of digits and letters in any case just where, in lower case, it is of digits and
-- lower-case letters.
pub alphanums-lower : (s : List ℕ)
    → list_all is_ascii_alphanumeric s ≡ list_all is_alphanum (str_to_ascii_lowercase s)
alphanums-lower s = sym (list_all-lower is_alphanum is_ascii_alphanumeric s lower_alphanum)

-- A small letter or digit is its own lower case.
pub lower_same : (b : ℕ) → is_alphanum b ≡ true → to_ascii_lowercase b ≡ b
lower_same b h = grind (arith, nat_tests)

-- A text of digits and lower-case letters is its own text in lower case.
pub lower_alphanums : (s : List ℕ) → list_all is_alphanum s ≡ true → str_to_ascii_lowercase s ≡ s
lower_alphanums [] h = refl
lower_alphanums (b ∷ s) h =
    let parts = each_true (is_alphanum b) (list_all is_alphanum s) h in
    let first : to_ascii_lowercase b ≡ b = lower_same b parts.0 in
    let rest : str_to_ascii_lowercase s ≡ s = lower_alphanums s parts.1 in
    cc

-- Lower case does not change whether a subtag is "*".
pub star-lower : (s : List ℕ) → is_star (str_to_ascii_lowercase s) ≡ is_star s
unfolding is_star
star-lower [] = refl
star-lower (b ∷ []) = lower_star b
star-lower (b ∷ c ∷ s) = refl
