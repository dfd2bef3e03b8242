-- A set of languages and its table.
use Rattle.std.proofs.Common.{ℕ, ◌≡◌, List, [], ◌∷◌, Bool, true, false, inl, inr, refl, sym, ◌∙◌}
use Rattle.std.proofs.Common.{◌⊎◌, ap, arith, get_or, length, subst}
use Rattle.std.specs.Prelude.{Contains, slice_index_or}
use Rattle.std.specs.Str.{bytes_eq}
use Rattle.std.proofs.lemmas.Bool.{cases_Bool}
use Rattle.std.proofs.lemmas.Slice.Eq.{bytes_eq-Decides}
use Rattle.list_core.proofs.Basics.{false_true, contains_cases, contains_first, contains_later}
use Rattle.nego_core.specs.LangSet.{is_among}
use Rattle.list_core.specs.Fingerprint.{slot_of}
use Rattle.list_core.specs.inner.Fingerprint.{IsTableOf}

-- a text that is among the languages is one of them
pub among_contains : (langs : List (List ℕ)) (text : List ℕ) → is_among langs text ≡ true
    → Contains langs text
among_contains [] text h = cc
among_contains (l ∷ langs) text h = elim (cases_Bool (bytes_eq l text)) [
  | inl e ↦ subst (Contains (l ∷ langs)) ((bytes_eq-Decides l text).0 e) (contains_first l langs)
  | inr e ↦ contains_later l text langs (among_contains langs text (rw e at h))
]

-- a language is among the languages
pub contains_among : (langs : List (List ℕ)) (text : List ℕ) → Contains langs text
    → is_among langs text ≡ true
contains_among [] text c = absurd (let low = c.1 in omega arith)
contains_among (l ∷ langs) text c = elim (cases_Bool (bytes_eq l text)) [
  | inl e ↦ rw e refl
  | inr e ↦ elim (contains_cases l text langs c) [
    | inl same ↦ absurd (false_true (sym e ∙ (bytes_eq-Decides l text).1 same))
    | inr later ↦ rw e (contains_among langs text later)
  ]
]

-- a text whose slot is not set is not among the languages
pub absent : (langs : List (List ℕ)) (slots : List Bool) (text : List ℕ) (n : ℕ)
    → IsTableOf slot_of 1024 langs slots → n ≡ slot_of text → slice_index_or slots n false ≡ false
    → false ≡ is_among langs text
absent langs slots text n t e f = elim (cases_Bool (is_among langs text)) [
  | inl h ↦
      absurd
      (false_true
      (sym f
      ∙ (ap (λ (k : ℕ). slice_index_or slots k false) e
      ∙ t.set text (among_contains langs text h))))
  | inr h ↦ sym h
]

-- ---- while the table is made

-- the numbers of the texts so far are set
pub record IsTableSoFar (number : List ℕ → ℕ) (size : ℕ) (list left : List (List ℕ))
    (table : List Bool) : Type 0 where
  pub full : length table ≡ size
  pub set : (s : List ℕ) → Contains list s
      → Contains left s ⊎ (get_or table (number s) false ≡ true)
