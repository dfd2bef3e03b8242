-- Ranges whose lookup text is another than their own and than "*".
use Rattle.std.proofs.Common.{ℕ, ◌≡◌, inl, inr, List, [], ◌∷◌, true, false, refl, sym, ◌∙◌, ap}
use Rattle.std.specs.List.{list_any}
use Rattle.lang_core.specs.Text.{pieces, joined}
use Rattle.lang_core.specs.Grammar.{is_star}
use Rattle.lang_core.specs.Matching.{as_basic, without_stars}
use Rattle.lang_core.specs.LookupText.{lookup_text, HasOtherText}
use Rattle.lang_core.proofs.Basics.{cases_bool}
use Rattle.lang_core.proofs.LookupTextLemmas.{pieces-lookup_text}
use Rattle.lang_core.proofs.PiecesLemmas.{joined-pieces}
use Rattle.lang_core.proofs.RangeText.{star_pieces}
use Rattle.lang_core.proofs.RangeStars.{star_self, star_kept, star_dropped}

-- without a star nothing is left out
none_dropped : (list : List (List ℕ)) → list_any is_star list ≡ false → without_stars list ≡ list
none_dropped [] h = refl
none_dropped (s ∷ list) h = elim (cases_bool (is_star s)) [
  | inl e ↦ absurd (let yes : list_any is_star (s ∷ list) ≡ true = rw e refl in cc)
  | inr e ↦
      (let rest : list_any is_star list ≡ false =
      sym (let same : list_any is_star (s ∷ list) ≡ list_any is_star list = rw e refl in same)
      ∙ h in star_kept s list e ∙ ap (λ (x : List (List ℕ)). s ∷ x) (none_dropped list rest))
]

own_pieces : (list : List (List ℕ)) → list_any is_star list ≡ false → as_basic list ≡ list
own_pieces [] h = refl
own_pieces (s ∷ list) h = elim (cases_bool (is_star s)) [
  | inl e ↦ absurd (let yes : list_any is_star (s ∷ list) ≡ true = rw e refl in cc)
  | inr e ↦
      (let kept : as_basic (s ∷ list) ≡ without_stars (s ∷ list) = rw e refl in
      kept ∙ none_dropped (s ∷ list) h)
]

-- the lookup text of a range without a star is its own
pub own_text : (range : List ℕ) → list_any is_star (pieces range) ≡ false
    → range ≡ lookup_text range
own_text range h = sym (ap joined (own_pieces (pieces range) h) ∙ joined-pieces range)

-- no star is left
none_left : (list : List (List ℕ)) → list_any is_star (without_stars list) ≡ false
none_left [] = refl
none_left (s ∷ list) = elim (cases_bool (is_star s)) [
  | inl e ↦ rw (star_dropped s list e) (none_left list)
  | inr e ↦
      rw (star_kept s list e)
      (let same : list_any is_star (s ∷ without_stars list)
      ≡ list_any is_star (without_stars list) = rw e refl in same ∙ none_left list)
]

-- where a star comes after another subtag, the lookup text is another text
pub other_text : (range s : List ℕ) (list : List (List ℕ)) → pieces range ≡ s ∷ list
    → is_star s ≡ false → list_any is_star (pieces range) ≡ true → HasOtherText range
other_text range s list e first some =
    let basic : as_basic (s ∷ list) ≡ s ∷ without_stars list = rw first refl in
    let of : pieces (lookup_text range) ≡ s ∷ without_stars list =
    pieces-lookup_text range ∙ (ap as_basic e ∙ basic) in
    let none : list_any is_star (s ∷ without_stars list) ≡ false =
    (let same : list_any is_star (s ∷ without_stars list)
    ≡ list_any is_star (without_stars list) = rw first refl in same ∙ none_left list) in (
      (λ own. let stars : list_any is_star (pieces (lookup_text range)) ≡ true =
          ap (λ (x : List ℕ). list_any is_star (pieces x)) own ∙ some in
          let without : list_any is_star (pieces (lookup_text range)) ≡ false =
          ap (list_any is_star) of ∙ none in cc),
      (λ star. let lone : s ∷ without_stars list ≡ (42 ∷ []) ∷ [] =
          sym of ∙ (ap pieces star ∙ star_pieces (42 ∷ []) star_self) in let same : s ≡ 42 ∷ [] =
          cc in let yes : is_star s ≡ true = ap is_star same ∙ star_self in cc),
    )
