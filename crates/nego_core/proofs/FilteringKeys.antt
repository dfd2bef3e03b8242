-- Keys of the languages, and their order.
use Rattle.std.proofs.Common.{ℕ, ◌≡◌, ◌+◌, ◌-◌, ◌<◌, ◌≤◌, inl, inr, take, length-take-le, take-suc}
use Rattle.std.proofs.Common.{List, [], ◌∷◌, ◌++◌, refl, sym, ◌∙◌, ap, subst, arith, length, get_or}
use Rattle.std.proofs.Common.{add-one}
use Rattle.std.specs.Prelude.{map, IsSorted, IsPermutation}
use Rattle.std.proofs.lemmas.List.{length-map, get_or-map}
use Rattle.nego_core.specs.Filtering.{filter_key_cmp, IsFiltered, IsKey, HasNoKey, AreKeys, pick_of}
use Rattle.list_core.specs.Deciding.{DecidesLang}
use Rattle.list_core.specs.Item.{Item}
use Rattle.nego_core.specs.declared.filtering.Pick.{Pick}
use Rattle.list_core.specs.declared.scheme.Scheme.{Scheme}
use Rattle.list_core.proofs.DecidingLemmas.{one_decision}
use Rattle.nego_core.specs.declared.filtering.FilterKey.{FilterKey}

-- ---- the keys of the languages so far

push_none : (scheme : Scheme) (items : List Item) (from : ℕ) (tags : List (List ℕ))
    (keys : List FilterKey) (tag : List ℕ)
    → AreKeys scheme items from tags keys → HasNoKey scheme items tag (from + length tags)
    → AreKeys scheme items from (tags ++ tag ∷ []) keys
push_none scheme items from [] [] tag a h = (subst (HasNoKey scheme items tag) (omega arith) h, tt)
push_none scheme items from [] (k ∷ keys) tag a h = absurd a
push_none scheme items from (t ∷ tags) [] tag a h = (
  a.0,
  push_none scheme items (from + 1) tags [] tag a.1
      (subst (HasNoKey scheme items tag) (omega arith) h),
)
push_none scheme items from (t ∷ tags) (k ∷ keys) tag a h = elim a [
  | inl x ↦
      inl (
        x.0,
        push_none scheme items (from + 1) tags (k ∷ keys) tag x.1
            (subst (HasNoKey scheme items tag) (omega arith) h),
      )
  | inr x ↦
      inr (
        x.0,
        push_none scheme items (from + 1) tags keys tag x.1
            (subst (HasNoKey scheme items tag) (omega arith) h),
      )
]

push_key : (scheme : Scheme) (items : List Item) (from : ℕ) (tags : List (List ℕ))
    (keys : List FilterKey) (tag : List ℕ) (key : FilterKey)
    → AreKeys scheme items from tags keys → IsKey scheme items tag (from + length tags) key
    → AreKeys scheme items from (tags ++ tag ∷ []) (keys ++ key ∷ [])
push_key scheme items from [] [] tag key a h =
    inr (subst (λ (n : ℕ). IsKey scheme items tag n key) (omega arith) h, tt)
push_key scheme items from [] (k ∷ keys) tag key a h = absurd a
push_key scheme items from (t ∷ tags) [] tag key a h =
    inl (
      a.0,
      push_key scheme items (from + 1) tags [] tag key a.1
          (subst (λ (n : ℕ). IsKey scheme items tag n key) (omega arith) h),
    )
push_key scheme items from (t ∷ tags) (k ∷ keys) tag key a h = elim a [
  | inl x ↦
      inl (
        x.0,
        push_key scheme items (from + 1) tags (k ∷ keys) tag key x.1
            (subst (λ (n : ℕ). IsKey scheme items tag n key) (omega arith) h),
      )
  | inr x ↦
      inr (
        x.0,
        push_key scheme items (from + 1) tags keys tag key x.1
            (subst (λ (n : ℕ). IsKey scheme items tag n key) (omega arith) h),
      )
]

-- The languages up to the next place are those before it and the one at it.
pub take_next : (tags : List (List ℕ)) (k : ℕ) (t : List ℕ) → k < length tags → t ≡ get_or tags k t
    → take (k + 1) tags ≡ take k tags ++ t ∷ []
take_next tags k t low e =
    rw (add-one, take-suc tags k t low) (ap (λ (x : List ℕ). take k tags ++ x ∷ []) (sym e))

-- A place among the languages is a place among their texts.
pub text_within : {X : Type 0} (text : X → List ℕ) (langs : List X) (k : ℕ) → k < length langs
    → k < length (map text langs)
text_within text langs k low = let size : length (map text langs) ≡ length langs =
    simp length-map in omega arith

-- The text of the language at a place is the text at that place.
pub text_at : {X : Type 0} (text : X → List ℕ) (langs : List X) (k : ℕ) (l : X) → k < length langs
    → l ≡ get_or langs k l → text l ≡ get_or (map text langs) k (text l)
text_at text langs k l low e = ap text e ∙ sym (get_or-map text langs k l (text l) low)

-- A language that has no key leaves the keys of the languages so far as they are.
pub none_next : (scheme : Scheme) (items : List Item) (tags : List (List ℕ)) (k : ℕ) (t : List ℕ)
    (filter_keys : List FilterKey)
    → k < length tags → t ≡ get_or tags k t
    → AreKeys scheme items 0 (take k tags) filter_keys → HasNoKey scheme items t k
    → AreKeys scheme items 0 (take (k + 1) tags) filter_keys
none_next scheme items tags k t filter_keys low e a h =
    let size : length (take k tags) ≡ k = length-take-le k tags (omega arith) in
    subst (λ (x : List (List ℕ)). AreKeys scheme items 0 x filter_keys)
    (sym (take_next tags k t low e))
    (push_none scheme items 0 (take k tags) filter_keys t a
    (subst (HasNoKey scheme items t) (omega arith) h))

-- A language that has a key adds it to the keys of the languages so far.
pub key_next : (scheme : Scheme) (items : List Item) (tags : List (List ℕ)) (k : ℕ) (t : List ℕ)
    (filter_keys : List FilterKey) (r : FilterKey)
    → k < length tags → t ≡ get_or tags k t
    → AreKeys scheme items 0 (take k tags) filter_keys
    → IsKey scheme items t k r
    → AreKeys scheme items 0 (take (k + 1) tags) (filter_keys ++ r ∷ [])
key_next scheme items tags k t filter_keys r low e a h =
    let size : length (take k tags) ≡ k = length-take-le k tags (omega arith) in
    subst (λ (x : List (List ℕ)). AreKeys scheme items 0 x (filter_keys ++ r ∷ []))
    (sym (take_next tags k t low e))
    (push_key scheme items 0 (take k tags) filter_keys t r a
    (subst (λ (n : ℕ). IsKey scheme items t n r) (omega arith) h))

-- ---- the key of one language

-- A language that an item decides with a positive weight has the key of that item and weight.
pub has_key : (scheme : Scheme) (items : List Item) (lang : List ℕ) (place item weight : ℕ)
    (key : FilterKey) → DecidesLang scheme items lang item weight → 0 < weight
    → key ≡ record { missing_weight = 1000 - weight; item = item; lang = lang; place = place }
    → IsKey scheme items lang place key
has_key scheme items lang place item weight key d p e =
    subst (IsKey scheme items lang place) (sym e)
    (record {
      weight = weight;
      decided = d;
      positive = p;
      missing_is = refl;
      lang_is =
          refl;
      place_is = refl;
    })

-- A language that no item decides has no key.
pub no_decision : (scheme : Scheme) (items : List Item) (lang : List ℕ) (place : ℕ)
    → ((p weight : ℕ) → ¬ DecidesLang scheme items lang p weight) → HasNoKey scheme items lang place
no_decision scheme items lang place h = λ key k. h key.item k.weight k.decided

-- A language that an item decides with the weight 0 has no key.
pub no_weight : (scheme : Scheme) (items : List Item) (lang : List ℕ) (place item weight : ℕ)
    → DecidesLang scheme items lang item weight → weight ≤ 0 → HasNoKey scheme items lang place
no_weight scheme items lang place item weight d z = λ key k.
    let same = (one_decision scheme items lang item key.item weight k.weight d k.decided).1 in
    let p = k.positive in
    omega arith

-- The keys of all languages, sorted, give the filtered list.
pub filtered : (scheme : Scheme) (items : List Item) (tags : List (List ℕ))
    (filter_keys sorted : List FilterKey) (picks : List Pick)
    → AreKeys scheme items 0 tags filter_keys → IsPermutation filter_keys sorted
    → IsSorted filter_key_cmp sorted → picks ≡ map pick_of sorted
    → IsFiltered scheme items tags picks
filtered scheme items tags filter_keys sorted picks a same ascending p =
    record {
      all = filter_keys;
      keys = sorted;
      all_ok = a;
      each_once = same;
      ascending = ascending;
      picks_are = p;
    }
