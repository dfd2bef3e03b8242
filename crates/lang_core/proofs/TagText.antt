-- What the text of a tag is made of.
use Rattle.std.proofs.Common.{ℕ, ◌≡◌, ◌+◌, ◌==◌, inl, inr, List, [], ◌∷◌, Bool, true, refl}
use Rattle.std.proofs.Common.{arith}
use Rattle.std.specs.List.{list_all, slice_split, onto_first}
use Rattle.std.proofs.lemmas.Bool.Decides.{nat_tests}
use Rattle.std.proofs.lemmas.List.Splits.{slice_split-cons_yes, slice_split-cons_no}
use Rattle.lang_core.specs.Text.{pieces_by, pieces}
use Rattle.lang_core.specs.Grammar.{are_allowed, tag_piece, is_alphanum, is_private_piece}
use Rattle.lang_core.specs.inner.LowerText.{is_nonzero_ascii, IsNonzeroAscii}
use Rattle.lang_core.specs.Tag.{HasSubtags}
use Rattle.lang_core.proofs.Basics.{cases_bool, each_true, both}
use Rattle.lang_core.proofs.KindLemmas.{run_of}

-- A small letter or digit is ASCII other than zero.
pub alphanum_nonzero : (b : ℕ) → is_alphanum b ≡ true → is_nonzero_ascii b ≡ true
alphanum_nonzero b h = grind (arith, nat_tests)

hyphen_nonzero : (b : ℕ) → (b == 45) ≡ true → is_nonzero_ascii b ≡ true
hyphen_nonzero b h = grind (arith, nat_tests)

-- each byte of each piece is a letter or a digit
abbrev each_alphanum : List (List ℕ) → Bool
each_alphanum list = list_all (λ s. list_all is_alphanum s) list

onto_nonzero : (b : ℕ) (text : List ℕ) (parts : List (List ℕ))
    → (each_alphanum parts ≡ true → IsNonzeroAscii text)
    → each_alphanum (onto_first b parts) ≡ true → IsNonzeroAscii (b ∷ text)
onto_nonzero b text [] rest h =
    let byte =
    each_true (is_alphanum b) true (each_true (list_all is_alphanum (b ∷ [])) true h).0 in
    both _ _ (alphanum_nonzero b byte.0) (rest refl)
onto_nonzero b text (part ∷ parts) rest h =
    let first = each_true (list_all is_alphanum (b ∷ part)) (each_alphanum parts) h in
    let byte = each_true (is_alphanum b) (list_all is_alphanum part) first.0 in
    both _ _ (alphanum_nonzero b byte.0) (rest (both _ _ byte.1 first.1))

split_nonzero : (text : List ℕ) → each_alphanum (slice_split (λ b. b == 45) text) ≡ true
    → IsNonzeroAscii text
split_nonzero [] h = refl
split_nonzero (b ∷ bs) h = elim (cases_bool (b == 45)) [
  | inl e ↦ both _ _ (hyphen_nonzero b e)
      (split_nonzero bs (rw (slice_split-cons_yes (λ x. x == 45) b bs e) at h))
  | inr e ↦ onto_nonzero b bs (slice_split (λ x. x == 45) bs) (split_nonzero bs)
      (rw (slice_split-cons_no (λ x. x == 45) b bs e) at h)
]

allowed_alphanum : (place : ℕ) (list : List (List ℕ)) → are_allowed tag_piece place list ≡ true
    → each_alphanum list ≡ true
unfolding is_private_piece
allowed_alphanum place [] h = refl
allowed_alphanum place (s ∷ list) h =
    let parts = each_true (is_private_piece s) (are_allowed tag_piece (place + 1) list) h in
    both _ _ (run_of is_alphanum 1 8 s parts.0).all (allowed_alphanum (place + 1) list parts.1)

-- Each byte of a text whose subtags are of letters and digits is ASCII, and not zero.
pub tag_nonzero : (text : List ℕ) → HasSubtags text → IsNonzeroAscii text
unfolding pieces_by
tag_nonzero text h = split_nonzero text (allowed_alphanum 0 (pieces text) h)
