-- A range that matches begins as the tag does, or with "*".
use Rattle.std.proofs.Common.{ℕ, ◌≡◌, ◌<◌, ◌==◌, ◌⊎◌, inl, inr, List, [], ◌∷◌, ◌++◌, false}
use Rattle.std.proofs.Common.{length, refl, sym, ◌∙◌, ap, arith}
use Rattle.std.specs.Prelude.{IsTrue, ◌↔◌, slice_index}
use Rattle.std.specs.List.{slice_split, onto_first}
use Rattle.std.proofs.lemmas.Bool.Decides.{nat_tests}
use Rattle.std.proofs.lemmas.List.Splits.{slice_split-cons_yes, slice_split-cons_no}
use Rattle.std.proofs.lemmas.List.Splits.{length-slice_split}
use Rattle.lang_core.specs.Text.{pieces, pieces_by}
use Rattle.lang_core.proofs.PiecesLemmas.{not_hyphen, some_pieces}
use Rattle.lang_core.proofs.RangeStars.{star_only}
use Rattle.list_core.specs.Deciding.{Matches}
use Rattle.list_core.specs.Item.{first_byte}
use Rattle.list_core.specs.declared.scheme.Scheme.{Scheme}
use Rattle.list_core.specs.declared.scheme.Scheme.TheVariants as scheme

-- ---- the first byte of a text

first_of_empty : first_byte (pieces []) ≡ 0
unfolding pieces_by
first_of_empty = refl

first_of_hyphen : (b : ℕ) (text : List ℕ) → b ≡ 45 → first_byte (pieces (b ∷ text)) ≡ 0
unfolding pieces_by
first_of_hyphen b text e =
    rw (slice_split-cons_yes (λ x. x == 45) b text (grind (arith, nat_tests))) refl

first_onto : (b : ℕ) (parts : List (List ℕ)) → 0 < length parts
    → first_byte (onto_first b parts) ≡ b
first_onto b [] n = absurd (omega arith)
first_onto b (p ∷ parts) n = refl

first_of_text : (b : ℕ) (text : List ℕ) → (b ≡ 45 → ⊥) → first_byte (pieces (b ∷ text)) ≡ b
unfolding pieces_by
first_of_text b text n =
    rw (slice_split-cons_no (λ x. x == 45) b text (not_hyphen b n))
    (first_onto b (slice_split (λ x. x == 45) text) (rw length-slice_split (omega arith)))

-- A text that begins with a hyphen has an empty first subtag, whose first byte counts as 0.
pub first_is_hyphen : (text : List ℕ) (first : ℕ) → first ≡ slice_index text 0 → first ≡ 45
    → 0 ≡ first_byte (pieces text)
first_is_hyphen [] first e h = absurd (omega arith)
first_is_hyphen (b ∷ text) first e h = sym (first_of_hyphen b text (sym e ∙ h))

-- An empty text has an empty first subtag, whose first byte counts as 0.
pub first_is_none : (text : List ℕ) → length text < 1 → 0 ≡ first_byte (pieces text)
first_is_none [] h = sym first_of_empty
first_is_none (b ∷ text) h = absurd (omega (arith, h))

-- The first byte of a text is that of its first subtag, unless it is a hyphen.
pub first_is_other : (text : List ℕ) (first : ℕ) → first ≡ slice_index text 0 → (first ≡ 45 → ⊥)
    → first ≡ first_byte (pieces text)
first_is_other [] first e n = e ∙ sym first_of_empty
first_is_other (b ∷ text) first e n = e ∙ sym (first_of_text b text (λ h. n (e ∙ h)))

-- ---- what a match says of it

begins : (p : List ℕ) (a b : List (List ℕ)) → first_byte (p ∷ a) ≡ first_byte (p ∷ b)
begins [] a b = refl
begins (x ∷ p) a b = refl

front_begins : (range tag rest : List (List ℕ)) → 0 < length range → tag ≡ range ++ rest
    → first_byte range ≡ first_byte tag
front_begins [] tag rest n e = absurd (omega arith)
front_begins (p ∷ range) tag rest n e = begins p range (range ++ rest) ∙ sym (ap first_byte e)

first_same : (scheme : Scheme) (range tag : List (List ℕ)) → 0 < length range
    → Matches scheme range tag → (first_byte range ≡ first_byte tag) ⊎ (first_byte range ≡ 42)
first_same scheme.Basic range tag n (inl star) = inr (ap first_byte star)
first_same scheme.Basic range tag n (inr front) = inl (front_begins range tag front.0 n front.1)
first_same scheme.Extended [] tag n m = absurd m
first_same scheme.Extended (r ∷ range) [] n m = absurd m
first_same scheme.Extended (r ∷ range) (t ∷ tag) n m = elim m.0 [
  | inl star ↦ inr (ap (λ (s : List ℕ). first_byte (s ∷ range)) (star_only r star))
  | inr same ↦ inl (ap (λ (s : List ℕ). first_byte (s ∷ range)) same ∙ begins t range tag)
]

-- a range that begins otherwise does not match
pub other_first : (scheme : Scheme) (range tag : List ℕ) (first byte : ℕ)
    → first ≡ first_byte (pieces range) → byte ≡ first_byte (pieces tag) → (first ≡ byte → ⊥)
    → (first ≡ 42 → ⊥) → IsTrue false ↔ Matches scheme (pieces range) (pieces tag)
other_first scheme range tag first byte e f n m = (
  (λ h. cc),
  (λ h. elim (first_same scheme (pieces range) (pieces tag) (some_pieces range) h) [
    | inl same ↦ absurd (n (e ∙ (same ∙ sym f)))
    | inr star ↦ absurd (m (e ∙ star))
  ]),
)
