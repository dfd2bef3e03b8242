-- The pieces of a text.
--
-- A text is cut at each hyphen. If it has none it is its one piece; else its first piece ends at
-- the first hyphen, and the rest has the other pieces. Two texts with a hyphen between them have
-- the pieces of both, and the pieces joined by hyphens are the text. So induction over pieces can
-- stand in for induction over bytes. A text has at most one piece more than bytes.
use Rattle.std.proofs.Common.{ℕ, ◌≡◌, ◌≤◌, ◌<◌, ◌+◌, ◌-◌, ◌==◌, get_or, sym, ap, ◌∙◌, inl, inr}
use Rattle.std.proofs.Common.{List, [], ◌∷◌, ◌++◌, Some, None, Bool, true, false, cond, ltb, length}
use Rattle.std.proofs.Common.{take, drop, sum_by, refl, arith, length-drop}
use Rattle.std.specs.Prelude.{position}
use Rattle.std.specs.List.{position_or_len, slice_split, onto_first}
use Rattle.std.specs.Str.{str_to_ascii_lowercase}
use Rattle.std.specs.Char.{to_ascii_lowercase}
use Rattle.std.proofs.lemmas.List.Sums.{sum_by-cons}
use Rattle.std.proofs.lemmas.Bool.{ltb-true, ltb-false}
use Rattle.std.proofs.lemmas.Bool.Decides.{nat_tests}
use Rattle.std.proofs.lemmas.List.Quantifiers.{position-Some}
use Rattle.std.proofs.lemmas.Option.{cond_some}
use Rattle.std.proofs.lemmas.List.{take_all, get_or_default}
use Rattle.std.proofs.lemmas.List.Sums.{fails_before_first}
use Rattle.std.proofs.lemmas.List.Splits.{slice_split_none, slice_split_first, slice_split-cons_yes}
use Rattle.std.proofs.lemmas.List.Splits.{slice_split-cons_no, length-slice_split}
use Rattle.std.proofs.lemmas.List.Splits.{join_with_byte-slice_split}
use Rattle.lang_core.specs.Text.{pieces_by, pieces, joined}
use Rattle.lang_core.proofs.Basics.{cases_bool}
use Rattle.lang_core.proofs.SubtagCaseLemmas.{lower_hyphen, lowered}

-- Where a choice between a value and none is none, its test is false.
pub cond_none : (b : Bool) (x : ℕ) → cond b (Some x) None ≡ None → b ≡ false
cond_none true x h = cc
cond_none false x h = refl

-- a text without a separator is its one piece
pub pieces_whole : (separator : ℕ) (text : List ℕ) → position (λ b. b == separator) text ≡ None
    → pieces_by separator text ≡ text ∷ []
unfolding pieces_by
pieces_whole separator text h =
    let past : length text ≤ position_or_len (λ b. b == separator) text =
    ltb-false _ _ (cond_none _ _ h) in
    slice_split_none (λ b. b == separator) text
    (λ k d lt. fails_before_first (λ b. b == separator) text k d (omega arith))

-- the first separator ends the first piece
pub pieces_cut : (separator : ℕ) (text : List ℕ) (at : ℕ)
    → position (λ b. b == separator) text ≡ Some at
    → pieces_by separator text
    ≡ take at text ∷ pieces_by separator (take (length text - (at + 1)) (drop (at + 1) text))
unfolding pieces_by
pieces_cut separator text at h =
    let found : (ltb (position_or_len (λ b. b == separator) text) (length text) ≡ true)
    × (position_or_len (λ b. b == separator) text ≡ at) = cond_some _ _ _ h in
    let rest : take (length text - (at + 1)) (drop (at + 1) text) ≡ drop (at + 1) text =
    grind (arith, take_all, length-drop) in
    rw (rest, ← found.1) (slice_split_first (λ b. b == separator) text 0 (ltb-true _ _ found.0))

-- Rules that rewrite the pieces of a text without a separator, or with a first one.
pub ruleset cuts = (pieces_whole, pieces_cut)

-- The first separator of a text is at a place within it.
pub separator_is : (separator : ℕ) (text bytes : List ℕ) (at : ℕ) → bytes ≡ text
    → Some at ≡ position (λ b. b == separator) bytes
    → (at < length text) × (get_or text at 0 ≡ separator)
separator_is separator text bytes at e h =
    let found : position (λ b. b == separator) text ≡ Some at =
    ap (position (λ b. b == separator)) (sym e) ∙ sym h in
    let facts = position-Some (λ b. b == separator) text at 0 found in
    (facts.0, grind (arith, nat_tests))

-- Where the bytes are those of the text and have no separator, the text is its one piece.
pub whole_of : (separator : ℕ) (text bytes : List ℕ) → bytes ≡ text
    → None ≡ position (λ b. b == separator) bytes → pieces_by separator text ≡ text ∷ []
whole_of separator text bytes e h =
    pieces_whole separator text (ap (position (λ b. b == separator)) (sym e) ∙ sym h)

-- Where the bytes are those of the text, their first separator ends its first piece.
pub cut_of : (separator : ℕ) (text bytes : List ℕ) (at : ℕ) → bytes ≡ text
    → Some at ≡ position (λ b. b == separator) bytes
    → pieces_by separator text ≡ take at text ∷ pieces_by separator (drop (at + 1) text)
cut_of separator text bytes at e h =
    let rest : take (length text - (at + 1)) (drop (at + 1) text) ≡ drop (at + 1) text =
    grind (arith, take_all, length-drop) in
    rw (← rest) (pieces_cut separator text at (ap (position (λ b. b == separator)) (sym e) ∙ sym h))

-- ---- a text and its pieces

-- the pieces, joined again, are the text
pub joined-pieces : (text : List ℕ) → joined (pieces text) ≡ text
unfolding pieces_by
joined-pieces text = join_with_byte-slice_split 45 text

onto_some : (b : ℕ) (parts more : List (List ℕ)) → 0 < length parts
    → onto_first b (parts ++ more) ≡ onto_first b parts ++ more
onto_some b [] more n = absurd (omega arith)
onto_some b (p ∷ parts) more n = refl

-- A text has at least one piece.
pub some_pieces : (text : List ℕ) → 0 < length (pieces text)
unfolding pieces_by
some_pieces text = rw length-slice_split (omega arith)

split_join : (xs ys : List ℕ)
    → slice_split (λ b. b == 45) (xs ++ 45 ∷ ys)
    ≡ slice_split (λ b. b == 45) xs ++ slice_split (λ b. b == 45) ys
split_join [] ys = refl
split_join (x ∷ xs) ys = elim (cases_bool (x == 45)) [
  | inl e ↦
      slice_split-cons_yes (λ b. b == 45) x (xs ++ 45 ∷ ys) e
      ∙ (ap (λ (r : List (List ℕ)). [] ∷ r) (split_join xs ys)
      ∙ ap (λ (r : List (List ℕ)). r ++ slice_split (λ b. b == 45) ys)
      (sym (slice_split-cons_yes (λ b. b == 45) x xs e)))
  | inr e ↦
      slice_split-cons_no (λ b. b == 45) x (xs ++ 45 ∷ ys) e
      ∙ (ap (onto_first x) (split_join xs ys)
      ∙ (onto_some x (slice_split (λ b. b == 45) xs) (slice_split (λ b. b == 45) ys)
      (rw length-slice_split (omega arith))
      ∙ ap (λ (r : List (List ℕ)). r ++ slice_split (λ b. b == 45) ys)
      (sym (slice_split-cons_no (λ b. b == 45) x xs e))))
]

-- Two texts with a hyphen between them have the pieces of the first, then those of the second.
pub pieces_join : (xs ys : List ℕ) → pieces (xs ++ 45 ∷ ys) ≡ pieces xs ++ pieces ys
unfolding pieces_by
pieces_join xs ys = split_join xs ys

-- A byte that is not a hyphen does not test as one.
pub not_hyphen : (b : ℕ) → (b ≡ 45 → ⊥) → (b == 45) ≡ false
not_hyphen b n = grind (arith, nat_tests)

-- A text without a hyphen is its one piece.
pub pieces_no_hyphen : (text : List ℕ) → ((k : ℕ) → k < length text → get_or text k 0 ≡ 45 → ⊥)
    → pieces text ≡ text ∷ []
unfolding pieces_by
pieces_no_hyphen text n =
    slice_split_none (λ b. b == 45) text
    (λ k d lt. not_hyphen (get_or text k d) (λ e. n k lt (get_or_default text k 0 d lt ∙ e)))

-- The size of a list of pieces, one byte counted after each, is that of its first and of its rest.
pub size_cons : (s : List ℕ) (list : List (List ℕ))
    → sum_by (λ x. length x + 1) (s ∷ list) ≡ (length s + 1) + sum_by (λ x. length x + 1) list
size_cons s list = sum_by-cons (λ x. length x + 1) s list

size_onto : (b : ℕ) (parts : List (List ℕ)) → 0 < sum_by (λ s. length s + 1) parts
    → sum_by (λ s. length s + 1) (onto_first b parts) ≡ sum_by (λ s. length s + 1) parts + 1
size_onto b [] h = absurd (omega arith)
size_onto b (part ∷ parts) h = omega (arith, size_cons (b ∷ part) parts, size_cons part parts)

size_split : (separator : ℕ) (text : List ℕ)
    → sum_by (λ s. length s + 1) (slice_split (λ b. b == separator) text) ≡ length text + 1
size_split separator [] = refl
size_split separator (b ∷ bs) =
    let rest = size_split separator bs in
    elim (cases_bool (b == separator)) [
      | inl h ↦
          rw (
            slice_split-cons_yes (λ x. x == separator) b bs h,
            size_cons []
                (slice_split (λ x. x == separator) bs),
          ) (omega (arith, rest))
      | inr h ↦
          rw (
            slice_split-cons_no (λ x. x == separator) b bs h,
            size_onto b
                (slice_split (λ x. x == separator) bs) (omega (arith, rest)),
          ) (omega (arith, rest))
    ]

-- each piece takes its bytes and one more
pub size_pieces : (separator : ℕ) (text : List ℕ)
    → sum_by (λ s. length s + 1) (pieces_by separator text) ≡ length text + 1
unfolding pieces_by
size_pieces separator text = size_split separator text

-- A list has no more pieces than its size, one byte counted after each piece.
pub length_le_size : (list : List (List ℕ)) → length list ≤ sum_by (λ s. length s + 1) list
length_le_size [] = omega arith
length_le_size (s ∷ list) = let rest = length_le_size list in omega (arith, size_cons s list)

-- A text has at most one more piece than it has bytes.
pub few_pieces : (text : List ℕ) → length (pieces text) ≤ length text + 1
few_pieces text = let size = size_pieces 45 text in omega (arith, length_le_size (pieces text))

-- ---- pieces in lower case

onto-lower : (b : ℕ) (parts : List (List ℕ))
    → onto_first (to_ascii_lowercase b) (lowered parts) ≡ lowered (onto_first b parts)
onto-lower b [] = refl
onto-lower b (p ∷ parts) = refl

split-lower : (text : List ℕ)
    → slice_split (λ b. b == 45) (str_to_ascii_lowercase text)
    ≡ lowered (slice_split (λ b. b == 45) text)
split-lower [] = refl
split-lower (b ∷ bs) = elim (cases_bool (b == 45)) [
  | inl e ↦
      slice_split-cons_yes (λ x. x == 45) (to_ascii_lowercase b) (str_to_ascii_lowercase bs)
      (lower_hyphen b ∙ e)
      ∙ (ap (λ (x : List (List ℕ)). [] ∷ x) (split-lower bs)
      ∙ sym (ap lowered (slice_split-cons_yes (λ x. x == 45) b bs e)))
  | inr e ↦
      slice_split-cons_no (λ x. x == 45) (to_ascii_lowercase b) (str_to_ascii_lowercase bs)
      (lower_hyphen b ∙ e)
      ∙ (ap (onto_first (to_ascii_lowercase b)) (split-lower bs)
      ∙ (onto-lower b (slice_split (λ x. x == 45) bs)
      ∙ sym (ap lowered (slice_split-cons_no (λ x. x == 45) b bs e))))
]

-- case does not change where pieces begin and end
pub pieces-lower : (text : List ℕ) → pieces (str_to_ascii_lowercase text) ≡ lowered (pieces text)
unfolding pieces_by
pieces-lower text = split-lower text
