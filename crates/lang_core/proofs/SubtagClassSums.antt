-- What the sum of the bytes' classes says of a text.
use Rattle.std.proofs.Common.{ℕ, ◌≡◌, ◌≤◌, ◌<◌, ◌==◌, ◌⊎◌, inl, inr, List, [], ◌∷◌, Bool, true}
use Rattle.std.proofs.Common.{false, length, get_or, sum_by, refl, sym, ◌∙◌, ap, arith}
use Rattle.std.specs.Prelude.{◌&&◌}
use Rattle.std.specs.List.{list_all}
use Rattle.std.specs.Char.{is_ascii_alphabetic, is_ascii_digit, is_ascii_alphanumeric}
use Rattle.std.proofs.lemmas.Bool.{agree_below, agree_below_at, eqb-true}
use Rattle.std.proofs.lemmas.Bool.Decides.{nat_tests}
use Rattle.std.proofs.lemmas.List.Sums.{sum_by-cons}
use Rattle.lang_core.specs.inner.Subtag.{class_of}
use Rattle.lang_core.proofs.Basics.{cases_bool, each_true, is_false}

-- a table of 256 bytes that agrees with the classes does so at each byte
pub from_table : (table : List ℕ) (b : ℕ)
    → agree_below (λ k. get_or table k 0 == class_of k) (λ k. true) 256 ≡ true → b < 256
    → get_or table b 0 ≡ class_of b
from_table table b h low =
    eqb-true _ _ (agree_below_at (λ k. get_or table k 0 == class_of k) (λ k. true) 256 b h low)

-- what a byte is, and what it adds
record IsLetter (b : ℕ) : Type 0 where
  pub adds : class_of b ≡ 0
  pub letter : is_ascii_alphabetic b ≡ true
  pub digit : is_ascii_digit b ≡ false
  pub either : is_ascii_alphanumeric b ≡ true

record IsDigit (b : ℕ) : Type 0 where
  pub adds : class_of b ≡ 1
  pub letter : is_ascii_alphabetic b ≡ false
  pub digit : is_ascii_digit b ≡ true
  pub either : is_ascii_alphanumeric b ≡ true

record IsOther (b : ℕ) : Type 0 where
  pub adds : class_of b ≡ 16
  pub letter : is_ascii_alphabetic b ≡ false
  pub digit : is_ascii_digit b ≡ false
  pub either : is_ascii_alphanumeric b ≡ false

letter_no_digit : (b : ℕ) → is_ascii_alphabetic b ≡ true → is_ascii_digit b ≡ false
letter_no_digit b h = grind (arith, nat_tests)

letter_either : (b : ℕ) → is_ascii_alphabetic b ≡ true → is_ascii_alphanumeric b ≡ true
letter_either b h = grind (arith, nat_tests)

digit_either : (b : ℕ) → is_ascii_digit b ≡ true → is_ascii_alphanumeric b ≡ true
digit_either b h = grind (arith, nat_tests)

other_neither : (b : ℕ) → is_ascii_alphabetic b ≡ false → is_ascii_digit b ≡ false
    → is_ascii_alphanumeric b ≡ false
other_neither b l d = grind (arith, nat_tests)

kinds : (b : ℕ) → IsLetter b ⊎ (IsDigit b ⊎ IsOther b)
kinds b = elim (cases_bool (is_ascii_alphabetic b)) [
  | inl l ↦
      inl (record {
        adds = rw l refl;
        letter = l;
        digit = letter_no_digit b l;
        either =
            letter_either b l;
      })
  | inr l ↦ elim (cases_bool (is_ascii_digit b)) [
    | inl d ↦
        inr (inl
        (record { adds = rw (l, d) refl; letter = l; digit = d; either = digit_either b d }))
    | inr d ↦
        inr (inr
        (record { adds = rw (l, d) refl; letter = l; digit = d; either = other_neither b l d }))
  ]
]

-- A byte adds at most 16 to the sum of its text.
pub small_class : (b : ℕ) → class_of b ≤ 16
small_class b = elim (kinds b) [
  | inl k ↦ (let a = k.adds in omega arith)
  | inr k ↦
      elim k [ inl d ↦ (let a = d.adds in omega arith) | inr o ↦ (let a = o.adds in omega arith) ]
]

-- ---- letters and digits alone

alphanum_sum : (s : List ℕ) → list_all is_ascii_alphanumeric s ≡ true → sum_by class_of s ≤ length s
alphanum_sum [] h = omega arith
alphanum_sum (b ∷ s) h =
    let parts = each_true (is_ascii_alphanumeric b) (list_all is_ascii_alphanumeric s) h in
    let rest = alphanum_sum s parts.1 in
    let sum = sum_by-cons class_of b s in
    elim (kinds b) [
      | inl k ↦ (let a = k.adds in omega arith)
      | inr k ↦ elim k [
        | inl d ↦ (let a = d.adds in omega arith)
        | inr o ↦ (let e = o.either in let t = parts.0 in cc)
      ]
    ]

other_sum : (s : List ℕ) → list_all is_ascii_alphanumeric s ≡ false → 16 ≤ sum_by class_of s
other_sum [] h = cc
other_sum (b ∷ s) h =
    let sum = sum_by-cons class_of b s in
    elim (kinds b) [
      | inl k ↦ (let rest = other_sum s (rw (k.either) at h) in omega arith)
      | inr k ↦ elim k [
        | inl d ↦ (let rest = other_sum s (rw (d.either) at h) in omega arith)
        | inr o ↦ (let a = o.adds in omega arith)
      ]
    ]

-- Where the sum of at most eight bytes is 16 or more, one of them is neither a letter nor a digit.
pub sum_of_other : (s : List ℕ) (sum : ℕ) → length s ≤ 8 → sum ≡ sum_by class_of s → 16 ≤ sum
    → list_all is_ascii_alphanumeric s ≡ false
sum_of_other s sum short e high = is_false _ (λ h. let low = alphanum_sum s h in omega arith)

-- Where the sum is below 16, each byte is a letter or a digit.
pub sum_of_alphanums : (s : List ℕ) (sum : ℕ) → sum ≡ sum_by class_of s → sum < 16
    → list_all is_ascii_alphanumeric s ≡ true
sum_of_alphanums s sum e low = elim (cases_bool (list_all is_ascii_alphanumeric s)) [
  | inl h ↦ h
  | inr h ↦ absurd (let high = other_sum s h in omega arith)
]

-- ---- letters alone, digits alone

same_test : (m n p q : ℕ) → (m ≡ n → p ≡ q) → (p ≡ q → m ≡ n) → (m == n) ≡ (p == q)
same_test m n p q there back = grind (arith, nat_tests)

-- Numbers that differ do not test as equal.
pub no_test : (m n : ℕ) → (m ≡ n → ⊥) → (m == n) ≡ false
no_test m n h = grind (arith, nat_tests)

letters_test : (s : List ℕ) → (sum_by class_of s == 0) ≡ list_all is_ascii_alphabetic s
letters_test [] = refl
letters_test (b ∷ s) =
    let rest = letters_test s in
    let sum = sum_by-cons class_of b s in
    let all = λ (first : Bool). first && list_all is_ascii_alphabetic s in
    elim (kinds b) [
      | inl k ↦
          (let a = k.adds in
          same_test (sum_by class_of (b ∷ s)) 0 (sum_by class_of s) 0 (λ e. omega arith)
          (λ e. omega arith) ∙ (rest ∙ sym (ap all k.letter)))
      | inr k ↦ elim k [
        | inl d ↦
            (let a = d.adds in
            no_test (sum_by class_of (b ∷ s)) 0 (λ e. omega arith) ∙ sym (ap all d.letter))
        | inr o ↦
            (let a = o.adds in
            no_test (sum_by class_of (b ∷ s)) 0 (λ e. omega arith) ∙ sym (ap all o.letter))
      ]
    ]

-- The sum is 0 just where each byte is a letter.
pub sum_of_letters : (s : List ℕ) (sum : ℕ) → sum ≡ sum_by class_of s
    → (sum == 0) ≡ list_all is_ascii_alphabetic s
sum_of_letters s sum e = ap (λ (n : ℕ). n == 0) e ∙ letters_test s

digits_test : (s : List ℕ) → list_all is_ascii_alphanumeric s ≡ true
    → (sum_by class_of s == length s) ≡ list_all is_ascii_digit s
digits_test [] h = refl
digits_test (b ∷ s) h =
    let parts = each_true (is_ascii_alphanumeric b) (list_all is_ascii_alphanumeric s) h in
    let rest = digits_test s parts.1 in
    let low = alphanum_sum s parts.1 in
    let sum = sum_by-cons class_of b s in
    let all = λ (first : Bool). first && list_all is_ascii_digit s in
    elim (kinds b) [
      | inl k ↦
          (let a = k.adds in
          no_test (sum_by class_of (b ∷ s)) (length (b ∷ s)) (λ e. omega arith)
          ∙ sym (ap all k.digit))
      | inr k ↦ elim k [
        | inl d ↦
            (let a = d.adds in
            same_test (sum_by class_of (b ∷ s)) (length (b ∷ s)) (sum_by class_of s) (length s)
            (λ e. omega arith) (λ e. omega arith) ∙ (rest ∙ sym (ap all d.digit)))
        | inr o ↦ (let e = o.either in let t = parts.0 in cc)
      ]
    ]

-- A sum below 16 is the length of the text just where each byte is a digit.
pub sum_of_digits : (s : List ℕ) (sum : ℕ) → sum ≡ sum_by class_of s → sum < 16
    → (sum == length s) ≡ list_all is_ascii_digit s
sum_of_digits s sum e low =
    ap (λ (n : ℕ). n == length s) e ∙ digits_test s (sum_of_alphanums s sum e low)
