-- The deciding item.
--
-- Of the items that match a tag the one with the most subtags other than "*" decides, and of
-- several the first written. There is one such place, and so one weight. It is found as the best of
-- the items that fit, which is the same relation said by a walk. Under the basic match it is found
-- by the fronts of the tag: the better of the best shorter range, of the equal one, and of "*".
use Rattle.std.proofs.Common.{ℕ, ◌≡◌, ◌≤◌, ◌<◌, ◌+◌, ◌⊎◌, List, [], ◌∷◌, true, inl, inr, refl, sym}
use Rattle.std.proofs.Common.{◌∙◌, ap, subst, arith, length, get_or, take, length-take-le}
use Rattle.std.specs.Prelude.{Option, Some, None, MatchOption, IsSomeAnd}
use Rattle.std.proofs.lemmas.Bool.{cases_lt, cases_order, cases_Bool}
use Rattle.std.proofs.lemmas.Option.{slice_get_within}
use Rattle.lang_core.specs.Text.{pieces, joined}
use Rattle.lang_core.specs.Lang.{tag_of}
use Rattle.lang_core.specs.Matching.{Basic}
use Rattle.std.specs.Str.{bytes_eq}
use Rattle.std.proofs.lemmas.Slice.Eq.{bytes_eq-Decides}
use Rattle.list_core.proofs.Basics.{same_at, stands_at}
use Rattle.lang_core.proofs.PiecesLemmas.{joined-pieces}
use Rattle.list_core.proofs.FirstTriedPrefixes.{IsTextFront, star_pieces}
use Rattle.list_core.proofs.FirstTriedPrefixes.{front_of_text}
use Rattle.list_core.proofs.FirstTriedPrefixes.{text_of_front, front_within, front_is_take}
use Rattle.list_core.proofs.FirstTriedPrefixes.{take_is_front}
use Rattle.list_core.proofs.DecidingMostSpecificLemmas.{best_same, better_joins}
use Rattle.list_core.specs.Item.{Item}
use Rattle.list_core.specs.Basics.{IsTheOne}
use Rattle.list_core.specs.Deciding.{IsBestOf, IsBest, Matches, IsMostSpecific, IsDeciding}
use Rattle.list_core.specs.Deciding.{IsDecidedBy, IsDecidingWeight, DecidesLang, IsAny}
use Rattle.list_core.specs.Deciding.{MatchesNamed}
use Rattle.list_core.specs.inner.Deciding.{better_of}
use Rattle.list_core.specs.declared.deciding.MostSpecific.{MostSpecific}
use Rattle.list_core.specs.declared.deciding.Decision.{Decision}
use Rattle.list_core.specs.declared.scheme.Scheme.{Scheme}

-- The most specific item is at one place alone.
pub one_most_specific : (Fits : Item → Type 0) (items : List Item) (p q : ℕ)
    → IsMostSpecific Fits items p → IsMostSpecific Fits items q → q ≡ p
one_most_specific Fits items p q d f = elim (cases_order q p) [
  | inl e ↦ e
  | inr r ↦ elim r [
    | inl less ↦
        absurd
        (let a = d.first q f.item less f.stands f.fits in let b = f.most p d.item d.stands d.fits in
        omega arith)
    | inr more ↦
        absurd
        (let a = f.first p d.item more d.stands d.fits in let b = d.most q f.item f.stands f.fits in
        omega arith)
  ]
]

-- A deciding item is at one place alone.
pub one_place : (scheme : Scheme) (items : List Item) (tag : List (List ℕ)) (p q : ℕ)
    → IsDeciding scheme items tag p → IsDeciding scheme items tag q → q ≡ p
one_place scheme items tag p q d f =
    one_most_specific (λ i. Matches scheme (pieces i.range) tag) items p q d f

-- The most specific item has one weight.
pub one_item_weight : (Fits : Item → Type 0) (items : List Item) (p q : ℕ)
    → (d : IsMostSpecific Fits items p) → (f : IsMostSpecific Fits items q)
    → f.item.weight ≡ d.item.weight
one_item_weight Fits items p q d f =
    ap (λ (x : Item). x.weight)
    (same_at items q p d.item f.item (one_most_specific Fits items p q d f) d.stands f.stands)

-- The items that decide a tag have one weight.
pub two_weights : (scheme : Scheme) (items : List Item) (tag : List (List ℕ)) (p q : ℕ)
    → (d : IsDeciding scheme items tag p) → (f : IsDeciding scheme items tag q)
    → f.item.weight ≡ d.item.weight
two_weights scheme items tag p q d f =
    one_item_weight (λ i. Matches scheme (pieces i.range) tag) items p q d f

-- ---- the best is the most specific

-- The best of the items that fit is the most specific one.
pub most_specific : (Fits : Item → Type 0) (items : List Item) (best : MostSpecific)
    → IsBestOf (λ _ i. Fits i) items best → IsMostSpecific Fits items best.place
most_specific Fits items best h = record {
  item = h.item;
  stands = h.stands;
  fits = h.fits;
  most = λ k other s f. (let m = h.most k other s f in let n = h.specificity_is in omega arith);
  first =
      λ k other low s f.
      (let m = h.first k other low s f in let n = h.specificity_is in omega arith);
}

-- ---- its weight

-- The place of the most specific item is one of the list.
pub stands_within : (Fits : Item → Type 0) (items : List Item) (place : ℕ)
    → IsMostSpecific Fits items place → place < length items
stands_within Fits items place d = slice_get_within items place d.item d.stands

-- The weight of the most specific item is that of the item read at its place.
pub weight_is : (Fits : Item → Type 0) (items : List Item) (place : ℕ) (j : Item)
    → (d : IsMostSpecific Fits items place) → j ≡ get_or items place j → d.item.weight ≡ j.weight
weight_is Fits items place j d e =
    ap (λ (x : Item). x.weight)
    (same_at items place place j d.item refl
    (stands_at items place j (stands_within Fits items place d) e) d.stands)

-- A tag is decided with the weight of the item read at the deciding place.
pub decided_by : (scheme : Scheme) (items : List Item) (tag : List (List ℕ)) (place : ℕ) (j : Item)
    → IsDeciding scheme items tag place → j ≡ get_or items place j
    → IsDecidedBy scheme items tag place j.weight
decided_by scheme items tag place j d e =
    (d, weight_is (λ i. Matches scheme (pieces i.range) tag) items place j d e)

-- A tag that no item decides has no deciding weight.
pub no_weight : (scheme : Scheme) (items : List Item) (tag : List (List ℕ))
    → ((place : ℕ) → ¬ IsDeciding scheme items tag place)
    → IsTheOne None (IsDecidingWeight scheme items tag)
no_weight scheme items tag h = λ m w. h w.0 w.1.0

-- ---- languages

-- The item and weight that decide a language's tag decide the language.
pub lang_decided : (scheme : Scheme) (items : List Item) (lang tag : List ℕ) (place weight : ℕ)
    → Some tag ≡ tag_of lang → IsDecidedBy scheme items (pieces tag) place weight
    → DecidesLang scheme items lang place weight
lang_decided scheme items lang tag place weight e d =
    subst (λ (o : Option (List ℕ)). IsSomeAnd o
    (λ t. IsDecidedBy scheme items (pieces t) place weight)) e d

-- A language is not decided where no item decides its tag.
pub lang_undecided : (scheme : Scheme) (items : List Item) (lang tag : List ℕ)
    → Some tag ≡ tag_of lang → ((place : ℕ) → ¬ IsDeciding scheme items (pieces tag) place)
    → (place weight : ℕ) → ¬ DecidesLang scheme items lang place weight
lang_undecided scheme items lang tag e h place weight d =
    h place
    (subst
    (λ (o : Option (List ℕ)). IsSomeAnd o (λ t. IsDecidedBy scheme items (pieces t) place weight))
    (sym e) d).0

-- a language is decided in one way
two_decided : (scheme : Scheme) (items : List Item) (tag : Option (List ℕ)) (p q m n : ℕ)
    → IsSomeAnd tag (λ t. IsDecidedBy scheme items (pieces t) p m)
    → IsSomeAnd tag (λ t. IsDecidedBy scheme items (pieces t) q n) → (q ≡ p) × (n ≡ m)
two_decided scheme items None p q m n d f = absurd d
two_decided scheme items (Some t) p q m n d f = (
  one_place scheme items (pieces t) p q d.0 f.0,
  sym f.1
      ∙ (two_weights scheme items (pieces t) p q d.0 f.0 ∙ d.1),
)

-- A language is decided by one item, with one weight.
pub one_decision : (scheme : Scheme) (items : List Item) (lang : List ℕ) (p q m n : ℕ)
    → DecidesLang scheme items lang p m → DecidesLang scheme items lang q n → (q ≡ p) × (n ≡ m)
one_decision scheme items lang p q m n d f = two_decided scheme items (tag_of lang) p q m n d f

-- ---- under the basic match

-- another range than "*", of fewer bytes, is a front of the text
abbrev pub IsShort : List ℕ → ℕ → Item → Type 0
IsShort text n i = (¬ IsAny i) × IsTextFront i.range text × (length i.range < n)

-- Where the next byte is a hyphen, the better of the best shorter range and the best range that
-- ends right before it is the best so far.
pub short_more : (items : List Item) (text start : List ℕ) (at : ℕ)
    (best found : Option MostSpecific) → at < length text → get_or text at 0 ≡ 45
    → start ≡ take at text → IsBest (λ _ i. IsShort text at i) items best
    → IsBest (λ _ i. (¬ IsAny i) × (i.range ≡ start)) items found
    → IsBest (λ _ i. IsShort text (at + 1) i) items (better_of best found)
short_more items text start at best found low hyphen e h f =
    better_joins (λ _ i. IsShort text at i) (λ _ i. (¬ IsAny i) × (i.range ≡ start))
    (λ _ i. IsShort text (at + 1) i) items best found
    (λ k i. (
      (λ s. (s.0, s.1, (let l = s.2 in omega arith))),
      (λ p. (let same : i.range ≡ take at text = p.1 ∙ e in let size : length (take at text) ≡ at =
          length-take-le at text (omega arith) in let n : length i.range ≡ length (take at text) =
          ap length same in (
            p.0,
            subst (λ (x : List ℕ). IsTextFront x text) (sym same)
                (take_is_front text at low hyphen),
            omega arith,
          ))),
      (λ s. elim (cases_lt (length i.range) at) [
        | inl less ↦ inl (s.0, s.1, less)
        | inr more ↦
            inr (
              s.0,
              (front_is_take i.range text at (let l = s.2 in omega arith) low s.1).0
                  ∙ sym e,
            )
      ]),
    ))
    h f

-- Where the next byte is no hyphen, no front of the text ends there, and the best so far stays.
pub short_same : (items : List Item) (text : List ℕ) (at : ℕ) (best : Option MostSpecific)
    → at < length text → (get_or text at 0 ≡ 45 → ⊥) → IsBest (λ _ i. IsShort text at i) items best
    → IsBest (λ _ i. IsShort text (at + 1) i) items best
short_same items text at best low other h =
    best_same (λ _ i. IsShort text at i) (λ _ i. IsShort text (at + 1) i) items best
    (λ k i. (
      (λ s. (s.0, s.1, (let l = s.2 in omega arith))),
      (λ s. elim (cases_lt (length i.range) at) [
        | inl less ↦ (s.0, s.1, less)
        | inr more ↦
            absurd (other (front_is_take i.range text at (let l = s.2 in omega arith) low s.1).1)
      ]),
    ))
    h

basic_named : (text : List ℕ) (i : Item) → MatchesNamed (pieces text) i → IsTextFront i.range text
basic_named text i (n, inl any) = absurd (n (sym (joined-pieces i.range) ∙ ap joined any))
basic_named text i (n, inr f) = text_of_front i.range text f

-- At the end of a tag, the better of the best shorter range and the best equal one is the best
-- match other than "*".
pub all_named : (items : List Item) (text : List ℕ) (at : ℕ) (best found : Option MostSpecific)
    → length text ≤ at → at ≤ length text → IsBest (λ _ i. IsShort text at i) items best
    → IsBest (λ _ i. (¬ IsAny i) × (i.range ≡ text)) items found
    → IsBest (λ _ i. MatchesNamed (pieces text) i) items (better_of best found)
all_named items text at best found le ge h f =
    better_joins (λ _ i. IsShort text at i) (λ _ i. (¬ IsAny i) × (i.range ≡ text))
    (λ _ i. MatchesNamed (pieces text) i) items best found
    (λ k i. (
      (λ s. (s.0, inr (front_of_text i.range text s.1))),
      (λ p. (p.0, inr (front_of_text i.range text (inl (sym p.1))))),
      (λ m. (let front = basic_named text i m in elim (front_within i.range text front) [
        | inl same ↦ inr (m.0, sym same)
        | inr less ↦ inl (m.0, front, omega arith)
      ])),
    ))
    h f

any_basic : (text : List ℕ) (i : Item) → IsAny i → Basic (pieces i.range) (pieces text)
any_basic text i a = inl (ap pieces a ∙ star_pieces)

any_or_not : (i : Item) → IsAny i ⊎ (¬ IsAny i)
any_or_not i = elim (cases_Bool (bytes_eq i.range (42 ∷ []))) [
  | inl e ↦ inl ((bytes_eq-Decides i.range (42 ∷ [])).0 e)
  | inr e ↦
      inr (λ a. let g : bytes_eq i.range (42 ∷ []) ≡ true =
      (bytes_eq-Decides i.range (42 ∷ [])).1 a in cc)
]

-- The better of the best match other than "*" and the best "*" is the best basic match.
pub all_basic : (items : List Item) (text : List ℕ) (named any : Option MostSpecific)
    → IsBest (λ _ i. MatchesNamed (pieces text) i) items named
    → IsBest (λ _ i. i.range ≡ 42 ∷ []) items any
    → IsBest (λ _ i. Basic (pieces i.range) (pieces text)) items (better_of named any)
all_basic items text named any h f =
    better_joins (λ _ i. MatchesNamed (pieces text) i) (λ _ i. i.range ≡ 42 ∷ [])
    (λ _ i. Basic (pieces i.range) (pieces text)) items named any
    (λ k i. (
      (λ m. m.1),
      (λ a. any_basic text i a),
      (λ b. elim (any_or_not i) [ inl a ↦ inr a | inr n ↦ inl (n, b) ]),
    ))
    h f

-- ---- what the code decides

-- The decision on a language's tag, or that there is none, is the decision on the language.
pub decision_on_lang : (scheme : Scheme) (items : List Item) (lang tag : List ℕ)
    (r : Option Decision) → Some tag ≡ tag_of lang
    → MatchOption r ((place : ℕ) → ¬ IsDeciding scheme items (pieces tag) place)
    (λ d. IsDecidedBy scheme items (pieces tag) d.place d.weight)
    → MatchOption r ((place weight : ℕ) → ¬ DecidesLang scheme items lang place weight)
    (λ d. DecidesLang scheme items lang d.place d.weight)
decision_on_lang scheme items lang tag None e h = lang_undecided scheme items lang tag e h
decision_on_lang scheme items lang tag (Some d) e h =
    lang_decided scheme items lang tag d.place d.weight e h
