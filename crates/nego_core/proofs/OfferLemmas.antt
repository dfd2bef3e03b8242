-- What is offered.
--
-- The definition of what a list offers walks the list once. The item that it comes to is the one
-- that decides by RFC 4647's rule of the most specific range, since that one is unique: so the
-- weight that the code finds is the weight that the definition tests, and what is offered is what a
-- filter gives. For the two offers that have no list the definition is computed over their items.
use Rattle.std.proofs.Common.{ℕ, ◌≡◌, ◌≤◌, ◌⊎◌, List, [], ◌∷◌, inl, inr, refl, sym, ◌∙◌}
use Rattle.std.proofs.Common.{ap, subst, arith, true, false}
use Rattle.std.specs.Prelude.{zero, suc, ◌↔◌, Bool, IsTrue, Option, Some, None, Contains, nat_lt}
use Rattle.std.specs.Prelude.{not, if◌then◌else◌, IsSomeAnd}
use Rattle.std.specs.List.{slice_get}
use Rattle.std.specs.Str.{bytes_eq}
use Rattle.std.proofs.lemmas.Bool.{cases_Bool}
use Rattle.std.proofs.lemmas.Bool.Decides.{nat_tests}
use Rattle.std.proofs.lemmas.Slice.Eq.{bytes_eq-Decides}
use Rattle.std.proofs.lemmas.Option.{slice_get_within, get_or_from_slice_get}
use Rattle.std.specs.Option.{is_none, is_some, option_copied}
use Rattle.std.specs.Borrow.{Bor}
use Rattle.lang_core.specs.Text.{pieces, pieces_by}
use Rattle.lang_core.specs.Grammar.{is_star}
use Rattle.lang_core.specs.Lang.{tag_of, none_text}
use Rattle.lang_core.specs.Matching.{Basic, BasicInBytes, is_basic_match, specificity}
use Rattle.lang_core.proofs.MatchingBasic.{basic_of_test, test_of_basic}
use Rattle.lang_core.proofs.MatchingBasicBytes.{bytes_of_basic, basic_of_bytes}
use Rattle.list_core.proofs.FirstTriedPrefixes.{star_pieces}
use Rattle.list_core.proofs.DecidingMatchedLemmas.{a_match_decides}
use Rattle.list_core.specs.Item.{Item}
use Rattle.list_core.specs.Deciding.{IsDeciding, IsDecidedBy, DecidesLang}
use Rattle.list_core.specs.declared.scheme.Scheme.TheVariants as scheme
use Rattle.nego_core.specs.Filtering.{HasPick}
use Rattle.nego_core.specs.Offer.{IsPrivateUse, all_items, decider, is_offered, is_offered_by}
use Rattle.nego_core.specs.Offer.{is_taken, preferred, public_items}

-- ---- the walk comes to the item that decides

contains_at : (items : List Item) (k : ℕ) (j : Item) → slice_get items k ≡ Some j
    → Contains items j
contains_at items k j e =
    (k, slice_get_within items k j e, get_or_from_slice_get items k j j e)

-- one step of the walk
abbrev step : Bool → Item → Option Item → Option Item
step b i o = if b then Some (preferred i o) else o

preferred_of : (i j : Item) (o : Option Item) → preferred i o ≡ j → (i ≡ j) ⊎ (o ≡ Some j)
preferred_of i j None e = inl e
preferred_of i j (Some k) e =
    elim (cases_Bool (nat_lt (specificity (pieces i.range)) (specificity (pieces k.range)))) [
      | inl less ↦ inr (cc)
      | inr more ↦ inl (cc)
    ]

-- the item that the walk comes to is in the list, and matches
walked : (items : List Item) (tag : List (List ℕ)) (j : Item) → decider items tag ≡ Some j
    → (k : ℕ) × (slice_get items k ≡ Some j) × (is_basic_match (pieces j.range) tag ≡ true)
walked [] tag j e = cc
walked (i ∷ items) tag j e = elim (cases_Bool (is_basic_match (pieces i.range) tag)) [
  | inl matches ↦
      (let same : preferred i (decider items tag) ≡ j = cc in
      elim (preferred_of i j (decider items tag) same) [
        | inl here ↦ (
          0,
          ap Some here,
          ap (λ (x : Item). is_basic_match (pieces x.range) tag)
              (sym here) ∙ matches,
        )
        | inr later ↦ (let w = walked items tag j later in (suc w.0, w.1, w.2))
      ])
  | inr other ↦
      (let same : decider items tag ≡ Some j = cc in let w = walked items tag j same in
      (suc w.0, w.1, w.2))
]

less_specific : (items : List Item) (tag : List (List ℕ)) (i : Item)
    → ((k : ℕ) (other : Item) → slice_get items k ≡ Some other
    → Basic (pieces other.range) tag
    → specificity (pieces other.range) ≤ specificity (pieces i.range))
    → (o : Option Item) → decider items tag ≡ o → preferred i o ≡ i
less_specific items tag i most None e = refl
less_specific items tag i most (Some j) e =
    let w = walked items tag j e in
    let le = most w.0 j w.1 (basic_of_test (pieces j.range) tag w.2) in
    elim (cases_Bool (nat_lt (specificity (pieces i.range)) (specificity (pieces j.range)))) [
      | inl less ↦ absurd (grind (arith, nat_tests))
      | inr more ↦ cc
    ]

-- The walk comes to the item that decides.
pub decider_is : (items : List Item) (tag : List (List ℕ)) (place : ℕ)
    → (d : IsDeciding scheme.Basic items tag place) → decider items tag ≡ Some d.item
decider_is [] tag place d = let s = d.stands in cc
decider_is (i ∷ items) tag zero d =
    let s : i ≡ d.item = let t = d.stands in cc in
    let m : is_basic_match (pieces i.range) tag ≡ true =
    test_of_basic (pieces i.range) tag
    (subst (λ (x : Item). Basic (pieces x.range) tag) (sym s) d.fits) in
    let p : preferred i (decider items tag) ≡ i =
    less_specific items tag i
    (λ k other t f. subst (λ (x : Item). specificity (pieces other.range)
    ≤ specificity (pieces x.range)) (sym s) (d.most (suc k) other t f)) (decider items tag) refl in
    let e : decider (i ∷ items) tag ≡ Some (preferred i (decider items tag)) =
    ap (λ (b : Bool). step b i (decider items tag)) m in
    e ∙ ap Some (p ∙ s)
decider_is (i ∷ items) tag (suc n) d =
    let later : decider items tag ≡ Some d.item =
    decider_is items tag n
    (record {
      item = d.item;
      stands = d.stands;
      fits = d.fits;
      most = λ k other t f. d.most (suc k) other t f;
      first = λ k other less t f. d.first (suc k) other (omega arith) t f;
    }) in
    elim (cases_Bool (is_basic_match (pieces i.range) tag)) [
      | inl matches ↦
          (let less = d.first 0 i (omega arith) refl (basic_of_test (pieces i.range) tag matches) in
          let e : decider (i ∷ items) tag ≡ Some (preferred i (decider items tag)) =
          ap (λ (b : Bool). step b i (decider items tag)) matches in
          let lower : nat_lt (specificity (pieces i.range)) (specificity (pieces d.item.range))
          ≡ true = grind (arith, nat_tests) in
          let p : preferred i (Some d.item) ≡ d.item =
          ap (λ (b : Bool). if b then d.item else i) lower in
          e ∙ ap Some (ap (preferred i) later ∙ p))
      | inr other ↦ ap (λ (b : Bool). step b i (decider items tag)) other ∙ later
    ]

none_walked : (items : List Item) (tag : List (List ℕ)) (o : Option Item)
    → ((place : ℕ) → ¬ IsDeciding scheme.Basic items tag place) → decider items tag ≡ o
    → decider items tag ≡ None
none_walked items tag None none e = e
none_walked items tag (Some j) none e =
    let w = walked items tag j e in
    let d = a_match_decides scheme.Basic items tag j (contains_at items w.0 j w.1)
    (basic_of_test (pieces j.range) tag w.2) in
    absurd (none d.0 d.1)

-- ---- what the code finds

-- Where an item decides, the offer is whether its weight is not 0.
pub decided_offer : (items : List Item) (tag : Option (List ℕ)) (place weight : ℕ)
    → IsSomeAnd tag (λ t. IsDecidedBy scheme.Basic items (pieces t) place weight)
    → is_offered_by items tag ≡ nat_lt 0 weight
decided_offer items None place weight d = absurd d
decided_offer items (Some t) place weight d =
    ap is_taken (decider_is items (pieces t) place d.0) ∙ ap (nat_lt 0) d.1

-- Where none decides, the offer is "@none" alone.
pub undecided_offer : (items : List Item) (tag : Option (List ℕ))
    → ((place weight : ℕ)
    → ¬ IsSomeAnd tag (λ t. IsDecidedBy scheme.Basic items (pieces t) place weight))
    → is_offered_by items tag ≡ is_none tag
undecided_offer items None none = refl
undecided_offer items (Some t) none =
    ap is_taken
    (none_walked items (pieces t) (decider items (pieces t))
    (λ place d. none place d.item.weight (d, refl)) refl)

-- A value that is borrowed is absent where its copy is.
pub none_copied : (o : Option (Bor (List ℕ))) (b : Bool) → is_some o ≡ not b
    → b ≡ is_none (option_copied o)
none_copied None true e = refl
none_copied None false e = e
none_copied (Some t) true e = e
none_copied (Some t) false e = refl

-- ---- the offers without a list

star_matches : (tag : List (List ℕ)) → is_basic_match (pieces (42 ∷ [])) tag ≡ true
star_matches tag = test_of_basic (pieces (42 ∷ [])) tag (inl star_pieces)

all_offered_by : (tag : Option (List ℕ)) → is_offered_by all_items tag ≡ true
all_offered_by None = refl
all_offered_by (Some t) = rw (star_matches (pieces t)) refl

-- The field "*" offers every language.
pub all_offered : (lang : List ℕ) → is_offered all_items lang ≡ true
all_offered lang = all_offered_by (tag_of lang)

same_first : (a b : ℕ) (xs ys : List ℕ) → a ∷ xs ≡ b ∷ ys → a ≡ b
same_first a b xs ys e = cc

private_is : (text : List ℕ) → BasicInBytes (120 ∷ []) text → IsPrivateUse text
private_is text (inl e) = absurd (let f = same_first 120 42 [] [] e in omega arith)
private_is text (inr (inl e)) = inl (sym e)
private_is text (inr (inr h)) = inr h

-- a test of private use is whether the range "x" matches
private_matches : (text : List ℕ) (b : Bool) → (IsTrue b ↔ IsPrivateUse text)
    → is_basic_match (pieces (120 ∷ [])) (pieces text) ≡ b
private_matches text true d =
    test_of_basic (pieces (120 ∷ [])) (pieces text)
    (basic_of_bytes (120 ∷ []) text (elim (d.0 refl) [
      | inl e ↦ inr (inl (sym e))
      | inr h ↦ inr (inr h)
    ]))
private_matches text false d =
    elim (cases_Bool (is_basic_match (pieces (120 ∷ [])) (pieces text))) [
      | inl e ↦
          absurd
          (let t = d.1 (private_is text (bytes_of_basic (120 ∷ []) text (basic_of_test
          (pieces (120 ∷ [])) (pieces text) e))) in cc)
      | inr e ↦ e
    ]

more_specific : nat_lt (specificity (pieces (42 ∷ []))) (specificity (pieces (120 ∷ []))) ≡ true
unfolding pieces_by specificity is_star
more_specific = refl

public_by : (b : Bool) (tag : List (List ℕ))
    → is_basic_match (pieces (120 ∷ [])) tag ≡ b
    → is_taken (decider public_items tag) ≡ not b
public_by true tag e = rw (star_matches tag, e, more_specific) refl
public_by false tag e = rw (star_matches tag, e) refl

none_is_public : ¬ IsPrivateUse none_text
none_is_public (inl e) = let f = same_first 64 120 _ _ e in omega arith
none_is_public (inr h) = let f = same_first 64 120 _ _ h.1 in omega arith

-- The field "*, x;q=0" offers every language but those of private use.
pub public_offered : (lang : List ℕ) (b : Bool) → (IsTrue b ↔ IsPrivateUse lang)
    → is_offered public_items lang ≡ not b
public_offered lang b d = elim (cases_Bool (bytes_eq lang none_text)) [
  | inl e ↦
      (let same = (bytes_eq-Decides lang none_text).0 e in
      let other : b ≡ false = elim (cases_Bool b) [
        | inl t ↦ absurd (none_is_public (subst IsPrivateUse same (d.0 t)))
        | inr f ↦ f
      ] in
      rw (e, other) refl)
  | inr e ↦ rw e (public_by b (pieces lang) (private_matches lang b d))
]

private_or_not : (text : List ℕ) → (b : Bool) × (IsTrue b ↔ IsPrivateUse text)
private_or_not text = (
  is_basic_match (pieces (120 ∷ [])) (pieces text),
  (
    (λ t. private_is text (bytes_of_basic (120 ∷ []) text
        (basic_of_test (pieces (120 ∷ [])) (pieces text) t))),
    (λ p. test_of_basic (pieces (120 ∷ [])) (pieces text)
        (basic_of_bytes (120 ∷ []) text
        (elim p [ inl e ↦ inr (inl (sym e)) | inr h ↦ inr (inr h) ]))),
  ),
)

-- The field "*, x;q=0" offers a language exactly where it is not of private use.
pub public_is_offered : (lang : List ℕ) → IsTrue (is_offered public_items lang)
    ↔ (¬ IsPrivateUse lang)
public_is_offered lang =
    let b = private_or_not lang in let e = public_offered lang b.0 b.1 in (
      (λ t p. let u = b.1.1 p in cc),
      (λ n. elim (cases_Bool b.0) [
        | inl t ↦ absurd (n (b.1.0 t))
        | inr f ↦ cc
      ]),
    )

-- ---- what a filter gives

offer_picks : (items : List Item) (lang : List ℕ) (o : Option Item) → tag_of lang ≡ Some lang
    → decider items (pieces lang) ≡ o → is_taken o ≡ true
    → HasPick scheme.Basic items (lang ∷ [])
offer_picks items lang None e w t = cc
offer_picks items lang (Some j) e w t =
    let k = walked items (pieces lang) j w in
    let d = a_match_decides scheme.Basic items (pieces lang) j
    (contains_at items k.0 j k.1) (basic_of_test (pieces j.range) (pieces lang) k.2) in
    let same : Some d.1.item ≡ Some j = sym (decider_is items (pieces lang) d.0 d.1) ∙ w in
    let weight : d.1.item.weight ≡ j.weight =
    (let i : d.1.item ≡ j = cc in ap (λ x. x.weight) i) in (
      record { place = 0; weight = d.1.item.weight },
      record {
        lang = lang;
        stands = refl;
        item = d.0;
        decided =
            subst (λ (x : Option (List ℕ)). IsSomeAnd x
            (λ tag. IsDecidedBy scheme.Basic items (pieces tag) d.0 d.1.item.weight)) (sym e)
            (d.1, refl);
        positive = grind (arith, nat_tests);
      },
    )

picked_lang : (lang l : List ℕ) (place : ℕ) → slice_get (lang ∷ []) place ≡ Some l → l ≡ lang
picked_lang lang l zero e = cc
picked_lang lang l (suc n) e = cc

-- A language is offered exactly where it is "@none", or filtering it by the list gives it.
pub offered_is_filtered : (items : List Item) (lang : List ℕ)
    → IsTrue (is_offered items lang)
    ↔ ((lang ≡ none_text) ⊎ HasPick scheme.Basic items (lang ∷ []))
offered_is_filtered items lang = (
  (λ t. elim (cases_Bool (bytes_eq lang none_text)) [
    | inl e ↦ inl ((bytes_eq-Decides lang none_text).0 e)
    | inr e ↦
        (let tag : tag_of lang ≡ Some lang = rw e refl in
        inr (offer_picks items lang (decider items (pieces lang)) tag refl
        (sym (ap (is_offered_by items) tag) ∙ t)))
  ]),
  (λ h. elim h [
    | inl e ↦ rw ((bytes_eq-Decides lang none_text).1 e) refl
    | inr p ↦
        (let k = p.1 in let same = picked_lang lang k.lang p.0.place k.stands in
        let d = subst (λ l. DecidesLang scheme.Basic items l k.item p.0.weight) same k.decided in
        let less = k.positive in
        decided_offer items (tag_of lang) k.item p.0.weight d ∙ (grind (arith, nat_tests)))
  ]),
)
