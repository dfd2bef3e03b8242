-- Lists of pieces that the grammars of ranges allow.
--
-- RFC 4647, section 2, has two grammars: a basic range, and an extended one, in which any subtag
-- may be "*". Both are read piece by piece, and the first piece that is not allowed at its place
-- refuses the range. A list is of the form just if no piece is refused. The bytes of a range are
-- letters, digits, hyphens and "*".
use Rattle.std.proofs.Common.{ℕ, ◌≡◌, ◌<◌, ◌+◌, ◌==◌, inl, inr, List, [], ◌∷◌, ◌++◌, Bool, true}
use Rattle.std.proofs.Common.{false, length, refl, sym, ◌∙◌, ap, subst, arith}
use Rattle.std.specs.Prelude.{◌||◌, IsTrue, zero, suc}
use Rattle.std.specs.List.{list_all, slice_split, onto_first}
use Rattle.std.proofs.lemmas.Bool.Decides.{nat_tests}
use Rattle.std.proofs.lemmas.List.Splits.{slice_split-cons_yes, slice_split-cons_no}
use Rattle.std.specs.Prelude.{Option, Some, None, MatchOption}
use Rattle.lang_core.specs.Text.{pieces_by, pieces, joined}
use Rattle.lang_core.specs.Grammar.{are_allowed, is_list_of, is_alphanum, is_letter, is_digit}
use Rattle.lang_core.specs.Grammar.{is_private_piece, is_star, basic_piece, extended_piece}
use Rattle.lang_core.specs.Grammar.{BasicRange, ExtendedRange, IsFirstRefused}
use Rattle.lang_core.specs.inner.LowerText.{is_nonzero_ascii, IsNonzeroAscii}
use Rattle.lang_core.proofs.Basics.{cases_bool, each_true, both, one_true, or_left, or_right}
use Rattle.lang_core.proofs.KindLemmas.{run_of}
use Rattle.lang_core.proofs.PiecesLemmas.{joined-pieces, some_pieces}
use Rattle.lang_core.proofs.RangeStars.{star_self}

-- a walk that is refused somewhere is not allowed as a whole
allowed_front : (allowed : ℕ → List ℕ → Bool) (from : ℕ) (before after : List (List ℕ))
    (piece : List ℕ) → are_allowed allowed from (before ++ piece ∷ after) ≡ true
    → allowed (from + length before) piece ≡ true
allowed_front allowed from [] after piece h =
    subst (λ (k : ℕ). allowed k piece ≡ true) (omega arith)
    (each_true (allowed from piece) (are_allowed allowed (from + 1) after) h).0
allowed_front allowed from (s ∷ before) after piece h =
    let rest =
    (each_true (allowed from s) (are_allowed allowed (from + 1) (before ++ piece ∷ after)) h).1
    in
    subst (λ (k : ℕ). allowed k piece ≡ true) (omega arith)
    (allowed_front allowed (from + 1) before after piece rest)

-- A list in which a piece is refused is not allowed as a whole.
pub not_allowed : (allowed : ℕ → List ℕ → Bool) (list : List (List ℕ)) (offset : ℕ)
    → IsFirstRefused allowed list offset → are_allowed allowed 0 list ≡ true → ⊥
not_allowed allowed list offset r h =
    let P : List (List ℕ) → Type 0 = λ some. are_allowed allowed 0 some ≡ true in
    let q : allowed (length r.before) r.piece ≡ true =
    subst (λ (k : ℕ). allowed k r.piece ≡ true) (omega arith)
    (allowed_front allowed 0 r.before r.after r.piece (subst P r.whole h)) in
    let f : allowed (length r.before) r.piece ≡ false = r.refused in
    cc

-- a lone star is a text of its own
star_is : (b : ℕ) → (b == 42) ≡ true → pieces (b ∷ []) ≡ (42 ∷ []) ∷ []
unfolding pieces_by
star_is b h =
    let P : ℕ → Type 0 = λ c. slice_split (λ x. x == 45) (c ∷ []) ≡ (42 ∷ []) ∷ [] in
    let e : b ≡ 42 = grind (arith, nat_tests) in
    subst P (sym e) refl

-- The text "*" has the one piece "*".
pub star_pieces : (text : List ℕ) → is_star text ≡ true → pieces text ≡ (42 ∷ []) ∷ []
unfolding is_star
star_pieces [] h = cc
star_pieces (b ∷ []) h = star_is b h
star_pieces (b ∷ c ∷ text) h = cc

-- The text whose one piece is "*" is "*".
pub star_text : (text : List ℕ) → pieces text ≡ (42 ∷ []) ∷ [] → is_star text ≡ true
star_text text h =
    let P : List ℕ → Type 0 = λ some. is_star some ≡ true in
    let e : text ≡ joined (pieces text) = sym (joined-pieces text) in
    subst P (sym (e ∙ ap joined h)) star_self

basic_extended_from : (from : ℕ) (list : List (List ℕ)) → are_allowed basic_piece from list ≡ true
    → are_allowed extended_piece from list ≡ true
basic_extended_from from [] h = refl
basic_extended_from from (s ∷ list) h =
    let parts = each_true (basic_piece from s) (are_allowed basic_piece (from + 1) list) h in
    both (extended_piece from s) (are_allowed extended_piece (from + 1) list)
    (or_right (is_star s) (basic_piece from s) parts.0)
    (basic_extended_from (from + 1) list parts.1)

-- Each piece of a list that has the form of a range is allowed at its place.
pub allowed_of_list : (allowed : ℕ → List ℕ → Bool) (list : List (List ℕ))
    → is_list_of allowed list ≡ true → are_allowed allowed 0 list ≡ true
allowed_of_list allowed [] h = refl
allowed_of_list allowed (s ∷ list) h = h

list_of_allowed : (allowed : ℕ → List ℕ → Bool) (list : List (List ℕ)) → 0 < length list
    → are_allowed allowed 0 list ≡ true → is_list_of allowed list ≡ true
list_of_allowed allowed [] n h = absurd (omega arith)
list_of_allowed allowed (s ∷ list) n h = h

-- each basic range is an extended one
pub basic_extended : (list : List (List ℕ)) → BasicRange list → ExtendedRange list
basic_extended list (inl e) =
    let P : List (List ℕ) → Type 0 = λ some. is_list_of extended_piece some ≡ true in
    subst P (sym e)
    (both (extended_piece 0 (42 ∷ [])) true
    (or_left (is_star (42 ∷ [])) (basic_piece 0 (42 ∷ [])) star_self) refl)
basic_extended [] (inr h) = cc
basic_extended (s ∷ list) (inr h) = basic_extended_from 0 (s ∷ list) h

-- ---- the bytes of ranges

-- a letter, a digit, a hyphen or a star
abbrev pub is_range_byte : ℕ → Bool
is_range_byte b = is_alphanum b || ((b == 45) || (b == 42))

abbrev are_range_bytes : List (List ℕ) → Bool
are_range_bytes list = list_all (λ s. list_all is_range_byte s) list

alphanum_byte : (b : ℕ) → is_alphanum b ≡ true → is_range_byte b ≡ true
alphanum_byte b h = or_left (is_alphanum b) ((b == 45) || (b == 42)) h

letter_byte : (b : ℕ) → is_letter b ≡ true → is_range_byte b ≡ true
letter_byte b h = alphanum_byte b (or_left (is_letter b) (is_digit b) h)

hyphen_byte : (b : ℕ) → (b == 45) ≡ true → is_range_byte b ≡ true
hyphen_byte b h = or_right (is_alphanum b) ((b == 45) || (b == 42)) (or_left (b == 45) (b == 42) h)

star_byte : (b : ℕ) → (b == 42) ≡ true → is_range_byte b ≡ true
star_byte b h = or_right (is_alphanum b) ((b == 45) || (b == 42)) (or_right (b == 45) (b == 42) h)

onto_bytes : (b : ℕ) (text : List ℕ) (parts : List (List ℕ))
    → (are_range_bytes parts ≡ true → list_all is_range_byte text ≡ true)
    → are_range_bytes (onto_first b parts) ≡ true → list_all is_range_byte (b ∷ text) ≡ true
onto_bytes b text [] rest h =
    both _ _
    (each_true (is_range_byte b) true (each_true (list_all is_range_byte (b ∷ [])) true h).0).0
    (rest refl)
onto_bytes b text (part ∷ parts) rest h =
    let first = each_true (list_all is_range_byte (b ∷ part)) (are_range_bytes parts) h in
    let byte = each_true (is_range_byte b) (list_all is_range_byte part) first.0 in
    both _ _ byte.0 (rest (both _ _ byte.1 first.1))

split_bytes : (text : List ℕ) → are_range_bytes (slice_split (λ b. b == 45) text) ≡ true
    → list_all is_range_byte text ≡ true
split_bytes [] h = refl
split_bytes (b ∷ bs) h = elim (cases_bool (b == 45)) [
  | inl e ↦
      both _ _ (hyphen_byte b e)
      (split_bytes bs (rw (slice_split-cons_yes (λ x. x == 45) b bs e) at h))
  | inr e ↦
      onto_bytes b bs (slice_split (λ x. x == 45) bs) (split_bytes bs)
      (rw (slice_split-cons_no (λ x. x == 45) b bs e) at h)
]

all_bytes : (kind : ℕ → Bool) (s : List ℕ) → ((b : ℕ) → kind b ≡ true → is_range_byte b ≡ true)
    → list_all kind s ≡ true → list_all is_range_byte s ≡ true
all_bytes kind [] byte h = refl
all_bytes kind (b ∷ s) byte h = let parts = each_true (kind b) (list_all kind s) h in
    both _ _ (byte b parts.0) (all_bytes kind s byte parts.1)

star_bytes : (s : List ℕ) → is_star s ≡ true → list_all is_range_byte s ≡ true
unfolding is_star
star_bytes [] h = refl
star_bytes (b ∷ []) h = both (is_range_byte b) true (star_byte b h) refl
star_bytes (b ∷ c ∷ s) h = cc

basic_bytes : (place : ℕ) (s : List ℕ) → basic_piece place s ≡ true
    → list_all is_range_byte s ≡ true
unfolding is_private_piece
basic_bytes zero s h = all_bytes is_letter s letter_byte (run_of is_letter 1 8 s h).all
basic_bytes (suc place) s h = all_bytes is_alphanum s alphanum_byte (run_of is_alphanum 1 8 s h).all

extended_bytes : (place : ℕ) (list : List (List ℕ)) → are_allowed extended_piece place list ≡ true
    → are_range_bytes list ≡ true
extended_bytes place [] h = refl
extended_bytes place (s ∷ list) h =
    let parts =
    each_true (extended_piece place s) (are_allowed extended_piece (place + 1) list) h in
    both _ _
    (elim (one_true (is_star s) (basic_piece place s) parts.0) [
      | inl e ↦
          star_bytes s e
      | inr e ↦ basic_bytes place s e
    ]) (extended_bytes (place + 1) list parts.1)

-- Each byte of an extended range is a letter, a digit, a hyphen or "*".
pub range_bytes : (text : List ℕ) → ExtendedRange (pieces text) → list_all is_range_byte text ≡ true
unfolding pieces_by
range_bytes text h =
    split_bytes text
    (extended_bytes 0 (pieces text) (allowed_of_list extended_piece (pieces text) h))

byte_nonzero : (b : ℕ) → is_range_byte b ≡ true → is_nonzero_ascii b ≡ true
byte_nonzero b h = grind (arith, nat_tests)

bytes_nonzero : (text : List ℕ) → list_all is_range_byte text ≡ true → IsNonzeroAscii text
bytes_nonzero [] h = refl
bytes_nonzero (b ∷ text) h =
    let parts = each_true (is_range_byte b) (list_all is_range_byte text) h in
    both _ _ (byte_nonzero b parts.0) (bytes_nonzero text parts.1)

-- Each byte of an extended range is ASCII, and not zero.
pub extended_nonzero : (text : List ℕ) → ExtendedRange (pieces text) → IsNonzeroAscii text
extended_nonzero text h = bytes_nonzero text (range_bytes text h)

-- Each byte of a basic range is ASCII, and not zero.
pub basic_nonzero : (text : List ℕ) → BasicRange (pieces text) → IsNonzeroAscii text
basic_nonzero text h = extended_nonzero text (basic_extended (pieces text) h)

-- ---- what the reader found

-- A text is an extended range where all its pieces are allowed, and is none where one is refused.
pub extended_answer : (text : List ℕ) (r : Option ℕ)
    → MatchOption r (IsTrue (are_allowed extended_piece 0 (pieces text)))
    (IsFirstRefused extended_piece (pieces text))
    → MatchOption r (ExtendedRange (pieces text))
    (λ offset. ¬ ExtendedRange (pieces text) × IsFirstRefused extended_piece (pieces text) offset)
extended_answer text None h = list_of_allowed extended_piece (pieces text) (some_pieces text) h
extended_answer text (Some offset) h = (
  (λ e. not_allowed extended_piece (pieces text) offset h
      (allowed_of_list extended_piece (pieces text) e)),
  h,
)

-- A text other than "*" is a basic range where all its pieces are allowed, and is none where one is
-- refused.
pub basic_answer : (text : List ℕ) (r : Option ℕ) → is_star text ≡ false
    → MatchOption r (IsTrue (are_allowed basic_piece 0 (pieces text)))
    (IsFirstRefused basic_piece (pieces text))
    → MatchOption r (BasicRange (pieces text))
    (λ offset. ¬ BasicRange (pieces text) × IsFirstRefused basic_piece (pieces text) offset)
basic_answer text None n h = inr (list_of_allowed basic_piece (pieces text) (some_pieces text) h)
basic_answer text (Some offset) n h = (
  (λ b.
      elim b [
        | inl e ↦ (let s = star_text text e in cc)
        | inr e ↦
            not_allowed basic_piece (pieces text) offset h
            (allowed_of_list basic_piece (pieces text) e)
      ]),
  h,
)
