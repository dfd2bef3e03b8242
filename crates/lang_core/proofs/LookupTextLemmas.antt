-- The text of a range as a basic one.
--
-- Lookup (RFC 4647, section 3.4) takes an extended range without its subtags "*", but for one that
-- begins with "*", which is "*" alone. The text is put together subtag by subtag, each with its
-- hyphen, so its pieces are the subtags that stay. These have the form of a basic range, in lower
-- case, and a basic range is its own lookup text.
use Rattle.std.proofs.Common.{ℕ, ◌≡◌, ◌<◌, ◌+◌, ◌==◌, inl, inr, List, [], ◌∷◌, ◌++◌, Bool, true}
use Rattle.std.proofs.Common.{false, length, refl, sym, ◌∙◌, ap, arith, append-nil, get_or}
use Rattle.std.specs.Prelude.{not, zero, suc}
use Rattle.std.specs.List.{list_all, slice_split, onto_first}
use Rattle.std.specs.Str.{str_to_ascii_lowercase}
use Rattle.std.specs.Char.{to_ascii_lowercase}
use Rattle.std.proofs.lemmas.Bool.Decides.{nat_tests}
use Rattle.std.proofs.lemmas.List.Splits.{slice_split-cons_yes, slice_split-cons_no}
use Rattle.std.proofs.lemmas.List.Splits.{slice_split_none}
use Rattle.lang_core.specs.Text.{pieces_by, pieces, joined}
use Rattle.lang_core.specs.Grammar.{are_allowed, is_list_of, extended_piece, basic_piece}
use Rattle.lang_core.specs.Grammar.{is_private_piece, is_letter, is_alphanum, is_star, BasicRange}
use Rattle.lang_core.specs.Grammar.{ExtendedRange}
use Rattle.lang_core.specs.Matching.{as_basic, without_stars}
use Rattle.lang_core.specs.LookupText.{lookup_text}
use Rattle.lang_core.specs.inner.LookupText.{hyphened}
use Rattle.lang_core.proofs.Basics.{other_true, cases_bool, each_true, both, is_false, not_true}
use Rattle.lang_core.proofs.Basics.{true_not}
use Rattle.lang_core.proofs.KindLemmas.{run_of}
use Rattle.lang_core.proofs.PiecesLemmas.{joined-pieces, some_pieces, pieces_join}
use Rattle.lang_core.proofs.RangeText.{range_bytes, is_range_byte}
use Rattle.lang_core.proofs.RangeStars.{star_kept, star_dropped, star_only}

-- a list's text is its first subtag and the others, each after a hyphen
joined-hyphened : (s : List ℕ) (list : List (List ℕ)) → joined (s ∷ list) ≡ s ++ hyphened list
joined-hyphened s [] = sym (append-nil s)
joined-hyphened s (t ∷ list) = ap (λ (x : List ℕ). s ++ 45 ∷ x) (joined-hyphened t list)

-- The lookup text of a range that begins with the subtag "*" is "*".
pub lookup_star : (range : List ℕ) (s : List ℕ) (list : List (List ℕ)) → pieces range ≡ s ∷ list
    → is_star s ≡ true → s ≡ lookup_text range
lookup_star range s list e h = sym (ap (λ (x : List (List ℕ)). joined (as_basic x)) e ∙ rw h refl)

-- The lookup text of a range that begins with another subtag is that subtag, and after it all
-- others but "*", each with a hyphen before it.
pub lookup_kept : (range : List ℕ) (s : List ℕ) (list : List (List ℕ)) → pieces range ≡ s ∷ list
    → is_star s ≡ false → s ++ hyphened (without_stars list) ≡ lookup_text range
lookup_kept range s list e h =
    let first : as_basic (s ∷ list) ≡ s ∷ without_stars list = rw h refl in
    sym (ap (λ (x : List (List ℕ)). joined (as_basic x)) e
    ∙ (ap joined first ∙ joined-hyphened s (without_stars list)))

-- ---- the pieces of a lookup text

abbrev no_hyphens : List (List ℕ) → Bool
no_hyphens list = list_all (λ s. list_all (λ b. not (b == 45)) s) list

onto_free : (b : ℕ) (parts : List (List ℕ)) → (b == 45) ≡ false → no_hyphens parts ≡ true
    → no_hyphens (onto_first b parts) ≡ true
onto_free b [] e h = both _ _ (both _ _ (not_true (b == 45) e) refl) refl
onto_free b (p ∷ parts) e h =
    let first = each_true (list_all (λ c. not (c == 45)) p) (no_hyphens parts) h in
    both _ _ (both _ _ (not_true (b == 45) e) first.0) first.1

split_free : (text : List ℕ) → no_hyphens (slice_split (λ b. b == 45) text) ≡ true
split_free [] = refl
split_free (b ∷ bs) = elim (cases_bool (b == 45)) [
  | inl e ↦ rw (slice_split-cons_yes (λ x. x == 45) b bs e) (split_free bs)
  | inr e ↦
      rw (slice_split-cons_no (λ x. x == 45) b bs e)
      (onto_free b (slice_split (λ x. x == 45) bs) e (split_free bs))
]

pieces_free : (text : List ℕ) → no_hyphens (pieces text) ≡ true
unfolding pieces_by
pieces_free text = split_free text

free_at : (s : List ℕ) (k : ℕ) (d : ℕ) → list_all (λ b. not (b == 45)) s ≡ true → k < length s
    → (get_or s k d == 45) ≡ false
free_at [] k d h n = absurd (omega arith)
free_at (b ∷ s) zero d h n =
    true_not (b == 45) (each_true (not (b == 45)) (list_all (λ c. not (c == 45)) s) h).0
free_at (b ∷ s) (suc k) d h n =
    free_at s k d (each_true (not (b == 45)) (list_all (λ c. not (c == 45)) s) h).1 (omega arith)

one_piece : (s : List ℕ) → list_all (λ b. not (b == 45)) s ≡ true → pieces s ≡ s ∷ []
unfolding pieces_by
one_piece s h = slice_split_none (λ b. b == 45) s (λ k d lt. free_at s k d h lt)

pieces-joined : (s : List ℕ) (list : List (List ℕ)) → no_hyphens (s ∷ list) ≡ true
    → pieces (joined (s ∷ list)) ≡ s ∷ list
pieces-joined s [] h = one_piece s (each_true (list_all (λ b. not (b == 45)) s) true h).0
pieces-joined s (t ∷ list) h =
    let parts = each_true (list_all (λ b. not (b == 45)) s) (no_hyphens (t ∷ list)) h in
    pieces_join s (joined (t ∷ list))
    ∙ (ap (λ (x : List (List ℕ)). x ++ pieces (joined (t ∷ list))) (one_piece s parts.0)
    ∙ ap (λ (x : List (List ℕ)). s ∷ x) (pieces-joined t list parts.1))

filter_free : (list : List (List ℕ)) → no_hyphens list ≡ true
    → no_hyphens (without_stars list) ≡ true
filter_free [] h = refl
filter_free (s ∷ list) h =
    let parts = each_true (list_all (λ b. not (b == 45)) s) (no_hyphens list) h in
    elim (cases_bool (is_star s)) [
      | inl e ↦ rw (star_dropped s list e) (filter_free list parts.1)
      | inr e ↦ rw (star_kept s list e) (both _ _ parts.0 (filter_free list parts.1))
    ]

pieces_of : (list : List (List ℕ)) → 0 < length list → no_hyphens list ≡ true
    → pieces (joined (as_basic list)) ≡ as_basic list
pieces_of [] n h = absurd (omega arith)
pieces_of (s ∷ list) n h =
    let parts = each_true (list_all (λ b. not (b == 45)) s) (no_hyphens list) h in
    elim (cases_bool (is_star s)) [
      | inl e ↦ rw e (pieces-joined s [] (both _ _ parts.0 refl))
      | inr e ↦
          (let kept : as_basic (s ∷ list) ≡ s ∷ without_stars list = rw e refl in
          rw kept
          (pieces-joined s (without_stars list) (both _ _ parts.0 (filter_free list parts.1))))
    ]

-- the pieces of a range's lookup text are the range as a basic one
pub pieces-lookup_text : (range : List ℕ) → pieces (lookup_text range) ≡ as_basic (pieces range)
pieces-lookup_text range = pieces_of (pieces range) (some_pieces range) (pieces_free range)

-- ---- a basic range as a basic one is itself

star_alphanum : (b : ℕ) → is_alphanum b ≡ true → (b == 42) ≡ true → ⊥
star_alphanum b h e = grind (arith, nat_tests)

star_letter : (b : ℕ) → is_letter b ≡ true → (b == 42) ≡ true → ⊥
star_letter b h e = grind (arith, nat_tests)

star_among : (kind : ℕ → Bool) (s : List ℕ) → ((b : ℕ) → kind b ≡ true → (b == 42) ≡ true → ⊥)
    → list_all kind s ≡ true → is_star s ≡ true → ⊥
unfolding is_star
star_among kind [] apart h e = cc
star_among kind (b ∷ []) apart h e = apart b (each_true (kind b) true h).0 e
star_among kind (b ∷ c ∷ s) apart h e = cc

-- A subtag that a basic range allows at its place is not "*".
pub no_star : (place : ℕ) (s : List ℕ) → basic_piece place s ≡ true → is_star s ≡ false
unfolding is_private_piece
no_star zero s h =
    is_false (is_star s) (λ e. star_among is_letter s star_letter (run_of is_letter 1 8 s h).all e)
no_star (suc place) s h =
    is_false (is_star s)
    (λ e. star_among is_alphanum s star_alphanum (run_of is_alphanum 1 8 s h).all e)

all_kept : (from : ℕ) (list : List (List ℕ)) → are_allowed basic_piece from list ≡ true
    → without_stars list ≡ list
all_kept from [] h = refl
all_kept from (s ∷ list) h =
    let parts = each_true (basic_piece from s) (are_allowed basic_piece (from + 1) list) h in
    star_kept s list (no_star from s parts.0)
    ∙ ap (λ (x : List (List ℕ)). s ∷ x) (all_kept (from + 1) list parts.1)

lone_star : as_basic ((42 ∷ []) ∷ []) ≡ (42 ∷ []) ∷ []
unfolding is_star
lone_star = refl

-- A basic range, taken as a basic one, is itself.
pub as_basic-basic : (list : List (List ℕ)) → BasicRange list → as_basic list ≡ list
as_basic-basic list (inl e) = ap as_basic e ∙ (lone_star ∙ sym e)
as_basic-basic [] (inr h) = cc
as_basic-basic (s ∷ list) (inr h) =
    let first : is_star s ≡ false =
    no_star 0 s (each_true (basic_piece 0 s) (are_allowed basic_piece 1 list) h).0 in
    let kept : without_stars (s ∷ list) ≡ s ∷ list = all_kept 0 (s ∷ list) h in
    rw first (sym (star_kept s list first) ∙ kept)

-- The lookup text of a basic range is its own text.
pub lookup_text-basic : (text : List ℕ) → BasicRange (pieces text) → text ≡ lookup_text text
lookup_text-basic text h = sym (ap joined (as_basic-basic (pieces text) h) ∙ joined-pieces text)

-- ---- an extended range as a basic one is one

anywhere_later : (p q : ℕ) (s : List ℕ) → 0 < p → 0 < q → basic_piece p s ≡ true
    → basic_piece q s ≡ true
anywhere_later zero q s n m h = absurd (omega arith)
anywhere_later (suc p) zero s n m h = absurd (omega arith)
anywhere_later (suc p) (suc q) s n m h = h

later_basic : (p q : ℕ) (list : List (List ℕ)) → 0 < p → 0 < q
    → are_allowed extended_piece p list ≡ true
    → are_allowed basic_piece q (without_stars list) ≡ true
later_basic p q [] n m h = refl
later_basic p q (s ∷ list) n m h =
    let parts = each_true (extended_piece p s) (are_allowed extended_piece (p + 1) list) h in
    elim (cases_bool (is_star s)) [
      | inl e ↦ rw (star_dropped s list e) (later_basic (p + 1) q list (omega arith) m parts.1)
      | inr e ↦
          rw (star_kept s list e)
          (both (basic_piece q s) (are_allowed basic_piece (q + 1) (without_stars list))
          (anywhere_later p q s n m (other_true (is_star s) (basic_piece p s) parts.0 e))
          (later_basic (p + 1) (q + 1) list (omega arith) (omega arith) parts.1))
    ]

-- An extended range, taken as a basic one, is a basic range.
pub as_basic-extended : (list : List (List ℕ)) → ExtendedRange list → BasicRange (as_basic list)
as_basic-extended [] h = cc
as_basic-extended (s ∷ list) h =
    let parts = each_true (extended_piece 0 s) (are_allowed extended_piece 1 list) h in
    elim (cases_bool (is_star s)) [
      | inl e ↦
          (let lone : as_basic (s ∷ list) ≡ (42 ∷ []) ∷ [] =
          rw e (ap (λ (x : List ℕ). x ∷ []) (star_only s e)) in inl lone)
      | inr e ↦ (
          let kept : as_basic (s ∷ list) ≡ s ∷ without_stars list = rw e refl in
          let each : is_list_of basic_piece (s ∷ without_stars list) ≡ true =
          both (basic_piece 0 s) (are_allowed basic_piece 1 (without_stars list))
          (other_true (is_star s) (basic_piece 0 s) parts.0 e)
          (later_basic 1 1 list (omega arith) (omega arith) parts.1) in
          inr (ap (is_list_of basic_piece) kept ∙ each))
    ]

-- ---- a range is in lower case

lower_byte : (b : ℕ) → is_range_byte b ≡ true → to_ascii_lowercase b ≡ b
lower_byte b h = grind (arith, nat_tests)

lower_bytes : (text : List ℕ) → list_all is_range_byte text ≡ true
    → str_to_ascii_lowercase text ≡ text
lower_bytes [] h = refl
lower_bytes (b ∷ text) h =
    let parts = each_true (is_range_byte b) (list_all is_range_byte text) h in
    let byte : to_ascii_lowercase b ≡ b = lower_byte b parts.0 in
    let rest : str_to_ascii_lowercase text ≡ text = lower_bytes text parts.1 in
    cc

-- The text of an extended range is in lower case.
pub lower-range : (text : List ℕ) → ExtendedRange (pieces text) → str_to_ascii_lowercase text ≡ text
lower-range text h = lower_bytes text (range_bytes text h)
