-- A filtered list has exactly the languages that are decided with a positive weight.
use Rattle.std.proofs.Common.{ℕ, ◌≡◌, ◌≤◌, ◌<◌, ◌+◌, ◌-◌, List, [], ◌∷◌, Some, Option, inl, inr}
use Rattle.std.proofs.Common.{refl, sym, ◌∙◌, ap, subst, arith}
use Rattle.std.specs.Prelude.{zero, suc, ◌↔◌, All, Contains, None, map, IsSomeAnd}
use Rattle.std.specs.List.{slice_get}
use Rattle.std.proofs.lemmas.List.Elements.{All-nil, All-cons, All-weaker, All-contains, All-map}
use Rattle.std.proofs.lemmas.List.Sorted.{All-permutation, Contains-permutation}
use Rattle.std.proofs.lemmas.Option.{slice_get_within, get_or_from_slice_get}
use Rattle.lang_core.specs.Text.{pieces}
use Rattle.lang_core.specs.Lang.{tag_of}
use Rattle.list_core.proofs.Basics.{contains_first, contains_later, contains_map}
use Rattle.nego_core.proofs.FilteringLemmas.{one_key}
use Rattle.list_core.specs.Item.{Item}
use Rattle.list_core.specs.Deciding.{DecidesLang, IsDecidedBy}
use Rattle.nego_core.specs.declared.filtering.FilterKey.{FilterKey}
use Rattle.nego_core.specs.Filtering.{IsKey, AreKeys, IsFiltered, IsPicked, pick_of}
use Rattle.nego_core.specs.declared.filtering.Pick.{Pick}
use Rattle.list_core.specs.declared.scheme.Scheme.{Scheme}

-- The key of a language of the list, at its place counted from a first one.
pub record IsKeyFrom (scheme : Scheme) (items : List Item) (from : ℕ) (langs : List (List ℕ))
    (key : FilterKey) : Type 0 where
  pub n : ℕ
  pub lang : List ℕ
  pub stands : slice_get langs n ≡ Some lang
  pub key_ok : IsKey scheme items lang (from + n) key

key_later : (scheme : Scheme) (items : List Item) (from : ℕ) (l : List ℕ) (langs : List (List ℕ))
    (key : FilterKey) → IsKeyFrom scheme items (from + 1) langs key
    → IsKeyFrom scheme items from (l ∷ langs) key
key_later scheme items from l langs key k =
    record {
      n = suc k.n;
      lang = k.lang;
      stands = k.stands;
      key_ok =
          subst (λ (x : ℕ). IsKey scheme items k.lang x key) (omega arith) k.key_ok;
    }

-- Each key is that of a language of the list, at its place.
pub keys_right : (scheme : Scheme) (items : List Item) (from : ℕ) (langs : List (List ℕ))
    (keys : List FilterKey) → AreKeys scheme items from langs keys
    → All (IsKeyFrom scheme items from langs) keys
keys_right scheme items from [] [] a = All-nil (IsKeyFrom scheme items from [])
keys_right scheme items from [] (k ∷ keys) a = absurd a
keys_right scheme items from (l ∷ langs) [] a = All-nil (IsKeyFrom scheme items from (l ∷ langs))
keys_right scheme items from (l ∷ langs) (k ∷ keys) a = elim a [
  | inl x ↦
      All-weaker (IsKeyFrom scheme items (from + 1) langs) (IsKeyFrom scheme items from (l ∷ langs))
      (key_later scheme items from l langs) (k ∷ keys)
      (keys_right scheme items (from + 1) langs (k ∷ keys) x.1)
  | inr x ↦
      All-cons (IsKeyFrom scheme items from (l ∷ langs)) k keys
      (record {
        n = 0;
        lang = l;
        stands = refl;
        key_ok =
            subst (λ (n : ℕ). IsKey scheme items l n k) (omega arith) x.0;
      })
      (All-weaker (IsKeyFrom scheme items (from + 1) langs)
      (IsKeyFrom scheme items from (l ∷ langs)) (key_later scheme items from l langs) keys
      (keys_right scheme items (from + 1) langs keys x.1))
]

-- The keys contain the key of each language that has one.
pub keys_all : (scheme : Scheme) (items : List Item) (from n : ℕ) (langs : List (List ℕ))
    (keys : List FilterKey) (lang : List ℕ) (key : FilterKey) → AreKeys scheme items from langs keys
    → slice_get langs n ≡ Some lang → IsKey scheme items lang (from + n) key → Contains keys key
keys_all scheme items from n [] keys lang key a s k = cc
keys_all scheme items from zero (l ∷ langs) [] lang key a s k =
    absurd
    (let e : l ≡ lang = cc in
    a.0 key
    (subst (λ (x : List ℕ). IsKey scheme items x from key) (sym e)
    (subst (λ (m : ℕ). IsKey scheme items lang m key) (omega arith) k)))
keys_all scheme items from zero (l ∷ langs) (j ∷ keys) lang key a s k =
    let e : l ≡ lang = cc in
    let here : IsKey scheme items l from key =
    subst (λ (x : List ℕ). IsKey scheme items x from key) (sym e)
    (subst (λ (m : ℕ). IsKey scheme items lang m key) (omega arith) k) in
    elim a [
      | inl x ↦ absurd (x.0 key here)
      | inr x ↦
          subst (Contains (j ∷ keys)) (one_key scheme items l from j key x.0 here)
          (contains_first j keys)
    ]
keys_all scheme items from (suc n) (l ∷ langs) [] lang key a s k =
    keys_all scheme items (from + 1) n langs [] lang key a.1 s
    (subst (λ (m : ℕ). IsKey scheme items lang m key) (omega arith) k)
keys_all scheme items from (suc n) (l ∷ langs) (j ∷ keys) lang key a s k =
    let later : IsKey scheme items lang (from + 1 + n) key =
    subst (λ (m : ℕ). IsKey scheme items lang m key) (omega arith) k in
    elim a [
      | inl x ↦ keys_all scheme items (from + 1) n langs (j ∷ keys) lang key x.1 s later
      | inr x ↦
          contains_later j key keys
          (keys_all scheme items (from + 1) n langs keys lang key x.1 s later)
    ]

-- ---- weights of at most 1000

small_on : (scheme : Scheme) (items : List Item) (tag : Option (List ℕ)) (place weight : ℕ)
    → All (λ i. i.weight ≤ 1000) items
    → IsSomeAnd tag (λ t. IsDecidedBy scheme items (pieces t) place weight) → weight ≤ 1000
small_on scheme items None place weight small d = absurd d
small_on scheme items (Some t) place weight small d =
    let item : Item = d.0.item in
    let low = slice_get_within items place item d.0.stands in
    let le = small place item low in
    let same = get_or_from_slice_get items place item item d.0.stands in
    let weight_is = d.1 in
    subst (λ (n : ℕ). n ≤ 1000) weight_is (subst (λ (i : Item). i.weight ≤ 1000) same le)

picked : (scheme : Scheme) (items : List Item) (langs : List (List ℕ))
    → All (λ i. i.weight ≤ 1000) items → (key : FilterKey) → IsKeyFrom scheme items 0 langs key
    → IsPicked scheme items langs (pick_of key)
picked scheme items langs small key k =
    let o = k.key_ok in
    let low : o.weight ≤ 1000 =
    small_on scheme items (tag_of k.lang) key.item o.weight small o.decided in
    let missing_weight = o.missing_is in
    let weight : o.weight ≡ 1000 - key.missing_weight = omega arith in
    let place : k.n ≡ key.place = (let p = o.place_is in omega arith) in
    record {
      lang = k.lang;
      stands = ap (slice_get langs) (sym place) ∙ k.stands;
      item = key.item;
      decided = subst (DecidesLang scheme items k.lang key.item) weight o.decided;
      positive = subst (λ (n : ℕ). 0 < n) weight o.positive;
    }

pick_is : (p : Pick) (weight : ℕ) → weight ≡ p.weight
    → record { place = p.place; weight = weight } ≡ p
pick_is p weight e = ap (λ (n : ℕ). record { place = p.place; weight = n }) e

-- Where no weight is above 1000, the filtered list has exactly the languages that an item decides
-- with a positive weight, each with that weight.
pub has_each : (scheme : Scheme) (items : List Item) (langs : List (List ℕ)) (picks : List Pick)
    → All (λ i. i.weight ≤ 1000) items → IsFiltered scheme items langs picks → (pick : Pick)
    → Contains picks pick ↔ IsPicked scheme items langs pick
has_each scheme items langs picks small f pick = (
  (λ c. All-contains (IsPicked scheme items langs) picks pick
      (rw f.picks_are
      (All-map (IsPicked scheme items langs) pick_of f.keys
      (All-weaker (IsKeyFrom scheme items 0 langs)
      (λ k. IsPicked scheme items langs (pick_of k)) (picked scheme items langs small) f.keys
      (All-permutation (IsKeyFrom scheme items 0 langs) f.all f.keys f.each_once
      (keys_right scheme items 0 langs f.all f.all_ok))))) c),
  (λ p.
      let low : pick.weight ≤ 1000 =
      small_on scheme items (tag_of p.lang) p.item pick.weight small p.decided in
      let key : FilterKey =
      record {
        missing_weight = 1000 - pick.weight;
        item = p.item;
        lang = p.lang;
        place =
            pick.place;
      } in
      let is_key : IsKey scheme items p.lang pick.place key =
      record {
        weight = pick.weight;
        decided = p.decided;
        positive = p.positive;
        missing_is =
            refl;
        lang_is = refl;
        place_is = refl;
      } in
      let in_all : Contains f.all key =
      keys_all scheme items 0 pick.place langs f.all p.lang key f.all_ok p.stands
      (subst (λ (n : ℕ). IsKey scheme items p.lang n key) (omega arith) is_key) in
      let in_keys : Contains f.keys key =
      Contains-permutation f.all f.keys key f.each_once in_all in
      let same : pick_of key ≡ pick = pick_is pick (1000 - (1000 - pick.weight)) (omega arith) in
      subst (λ (ps : List Pick). Contains ps pick) (sym f.picks_are)
      (subst (Contains (map pick_of f.keys)) same (contains_map pick_of f.keys key in_keys))),
)
