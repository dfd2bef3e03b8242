-- Where a range matches, an item decides.
use Rattle.std.proofs.Common.{ℕ, ◌≡◌, ◌⊎◌, List, [], ◌∷◌, inl, inr, refl, sym, ap, subst, arith}
use Rattle.std.proofs.Common.{length}
use Rattle.std.specs.Prelude.{zero, suc, Option, Some, None, Contains}
use Rattle.std.specs.List.{slice_get}
use Rattle.std.specs.Str.{bytes_eq}
use Rattle.std.proofs.lemmas.Bool.{cases_Bool}
use Rattle.std.proofs.lemmas.Slice.Eq.{bytes_eq-Decides}
use Rattle.lang_core.specs.Text.{pieces}
use Rattle.lang_core.specs.Grammar.{is_star}
use Rattle.lang_core.specs.Matching.{Basic, Extended, specificity, is_basic_match, greedy}
use Rattle.lang_core.proofs.MatchingBasic.{basic_of_test, test_of_basic}
use Rattle.lang_core.proofs.MatchingEmbedding.{embeds_of_greedy, greedy_of_embeds}
use Rattle.list_core.proofs.Basics.{stands_at}
use Rattle.list_core.proofs.DecidingMostSpecificLemmas.{Before, At, none_before, all_before}
use Rattle.list_core.proofs.DecidingMostSpecificLemmas.{best_here}
use Rattle.list_core.proofs.DecidingMostSpecificLemmas.{none_here, joined_at}
use Rattle.list_core.proofs.DecidingLemmas.{most_specific}
use Rattle.list_core.specs.Item.{Item}
use Rattle.list_core.specs.Deciding.{IsBest, Matches, IsMostSpecific, IsDeciding}
use Rattle.list_core.specs.inner.Deciding.{better_of}
use Rattle.list_core.specs.declared.deciding.MostSpecific.{MostSpecific}
use Rattle.list_core.specs.declared.scheme.Scheme.{Scheme}
use Rattle.list_core.specs.declared.scheme.Scheme.TheVariants as scheme

-- ---- a range matches or does not

basic_or_not : (range tag : List (List ℕ)) → Basic range tag ⊎ (¬ Basic range tag)
basic_or_not range tag = elim (cases_Bool (is_basic_match range tag)) [
  | inl e ↦ inl (basic_of_test range tag e)
  | inr e ↦ inr (λ b. let g = test_of_basic range tag b in cc)
]

extended_or_not : (range tag : List (List ℕ)) → Extended range tag ⊎ (¬ Extended range tag)
extended_or_not [] tag = inr (λ e. e)
extended_or_not (r ∷ range) [] = inr (λ e. e)
extended_or_not (r ∷ range) (t ∷ tag) = elim (cases_Bool (greedy range tag)) [
  | inl g ↦ elim (cases_Bool (is_star r)) [
    | inl star ↦ inl (inl star, embeds_of_greedy range tag g)
    | inr other ↦ elim (cases_Bool (bytes_eq r t)) [
      | inl same ↦ inl (inr ((bytes_eq-Decides r t).0 same), embeds_of_greedy range tag g)
      | inr differ ↦ inr (λ e. elim e.0 [
        | inl star ↦ cc
        | inr same ↦ (let s = (bytes_eq-Decides r t).1 same in cc)
      ])
    ]
  ]
  | inr g ↦ inr (λ e. let h = greedy_of_embeds range tag e.1 in cc)
]

matches_or_not : (scheme : Scheme) (range tag : List (List ℕ))
    → Matches scheme range tag ⊎ (¬ Matches scheme range tag)
matches_or_not scheme.Basic range tag = basic_or_not range tag
matches_or_not scheme.Extended range tag = extended_or_not range tag

-- ---- the best of all items

best_at : (Fits : Item → Type 0) (items : List Item) (n : ℕ) (o : Option Item)
    → ((i : Item) → Fits i ⊎ (¬ Fits i)) → slice_get items n ≡ o
    → (best : Option MostSpecific) × IsBest (At Fits n) items best
best_at Fits items n None either e = (
  None,
  λ k other t f. let same : slice_get items k ≡ slice_get items n =
      ap (slice_get items) f.0 in cc,
)
best_at Fits items n (Some i) either e = elim (either i) [
  | inl fits ↦ (
    Some (record { place = n; specificity = specificity (pieces i.range) }),
    best_here Fits items
        n (specificity (pieces i.range)) i e refl fits,
  )
  | inr not ↦ (None, none_here Fits items n i e not)
]

best_before : (Fits : Item → Type 0) (items : List Item) (n : ℕ)
    → ((i : Item) → Fits i ⊎ (¬ Fits i))
    → (best : Option MostSpecific) × IsBest (Before (λ _ i. Fits i) n) items best
best_before Fits items zero either = (None, none_before (λ _ i. Fits i) items)
best_before Fits items (suc n) either =
    let before = best_before Fits items n either in
    let here = best_at Fits items n (slice_get items n) either refl in (
      better_of before.0 here.0,
      subst (λ (m : ℕ). IsBest (Before (λ _ i. Fits i) m) items (better_of before.0 here.0))
          (omega arith) (joined_at Fits items n before.0 here.0 before.1 here.1),
    )

decided : (Fits : Item → Type 0) (items : List Item) (best : Option MostSpecific) (k : ℕ) (i : Item)
    → IsBest (λ _ i. Fits i) items best → slice_get items k ≡ Some i → Fits i
    → (place : ℕ) × IsMostSpecific Fits items place
decided Fits items None k i h s f = absurd (h k i s f)
decided Fits items (Some best) k i h s f = (best.place, most_specific Fits items best h)

-- where some item's range matches a tag, one item decides it
pub a_match_decides : (scheme : Scheme) (items : List Item) (tag : List (List ℕ)) (item : Item)
    → Contains items item → Matches scheme (pieces item.range) tag
    → (place : ℕ) × IsDeciding scheme items tag place
a_match_decides scheme items tag item c m =
    let Fits : Item → Type 0 = λ i. Matches scheme (pieces i.range) tag in
    let best =
    best_before Fits items (length items) (λ i. matches_or_not scheme (pieces i.range) tag) in
    decided Fits items best.0 c.0 item
    (all_before (λ _ i. Fits i) items (length items) best.0 (omega arith) best.1)
    (stands_at items c.0 item c.1 (sym c.2)) m
