-- Basic matching of texts.
use Rattle.std.proofs.Common.{ℕ, ◌≡◌, ◌⊎◌, inl, inr, List, [], ◌∷◌, ◌++◌, true, refl, sym, ◌∙◌, ap}
use Rattle.std.proofs.Common.{arith, append-nil}
use Rattle.std.proofs.lemmas.Bool.Decides.{nat_tests}
use Rattle.lang_core.specs.Text.{pieces, joined}
use Rattle.lang_core.specs.inner.MatchingFronts.{ends_subtag}
use Rattle.lang_core.specs.Matching.{Basic, BasicInBytes}
use Rattle.lang_core.proofs.PiecesLemmas.{joined-pieces}
use Rattle.lang_core.proofs.RangeText.{star_pieces}
use Rattle.lang_core.proofs.MatchingFrontsLemmas.{front_of_rest, rest_of_front}
use Rattle.lang_core.proofs.RangeStars.{star_self}

-- what comes after a front where a subtag ends: nothing, or a hyphen and more
equal_or_longer : (range tag rest : List ℕ) → tag ≡ range ++ rest → ends_subtag rest ≡ true
    → (range ≡ tag) ⊎ ((after : List ℕ) × (tag ≡ range ++ 45 ∷ after))
equal_or_longer range tag [] e h = inl (sym (e ∙ append-nil range))
equal_or_longer range tag (b ∷ rest) e h =
    let hyphen : b ≡ 45 = grind (arith, nat_tests) in
    inr (rest, e ∙ ap (λ (c : ℕ). range ++ c ∷ rest) hyphen)

-- Where a range's subtags match a tag's in the basic way, its text is "*", the tag's text, or what
-- comes before a hyphen of it.
pub bytes_of_basic : (range tag : List ℕ) → Basic (pieces range) (pieces tag)
    → BasicInBytes range tag
bytes_of_basic range tag (inl star) = inl (sym (joined-pieces range) ∙ ap joined star)
bytes_of_basic range tag (inr front) = let r = rest_of_front range tag front in
    inr (equal_or_longer range tag r.0 r.1.0 r.1.1)

-- A range whose text is "*", a tag's text, or what comes before a hyphen of it matches that tag's
-- subtags in the basic way.
pub basic_of_bytes : (range tag : List ℕ) → BasicInBytes range tag
    → Basic (pieces range) (pieces tag)
basic_of_bytes range tag (inl star) = inl (ap pieces star ∙ star_pieces (42 ∷ []) star_self)
basic_of_bytes range tag (inr (inl same)) =
    inr ([], ap pieces (sym same) ∙ sym (append-nil (pieces range)))
basic_of_bytes range tag (inr (inr longer)) =
    let front = front_of_rest range (45 ∷ longer.0) refl in
    inr (front.0, ap pieces longer.1 ∙ front.1)
