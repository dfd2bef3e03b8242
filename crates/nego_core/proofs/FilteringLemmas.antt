-- There is one filtered list.
use Rattle.std.proofs.Common.{ℕ, ◌≡◌, ◌+◌, ◌-◌, List, [], ◌∷◌, inl, inr, subst, refl, sym, ◌∙◌, ap}
use Rattle.std.specs.Prelude.{map, IsPermutation}
use Rattle.std.specs.declared.cmp.Ordering.TheVariants.{Equal}
use Rattle.std.specs.Cmp.{IsTotalOrder}
use Rattle.std.proofs.lemmas.Cmp.{nat_cmp_total, nat_list_cmp_total, on_total, then_total}
use Rattle.list_core.proofs.IndexUnique.{one_order, then_tied, nat_tied, text_tied}
use Rattle.list_core.specs.Item.{Item}
use Rattle.nego_core.specs.declared.filtering.FilterKey.{FilterKey}
use Rattle.nego_core.specs.Filtering.{IsFiltered, IsKey, AreKeys, filter_key_cmp, pick_of}
use Rattle.list_core.specs.declared.scheme.Scheme.{Scheme}
use Rattle.list_core.proofs.DecidingLemmas.{one_decision}
use Rattle.nego_core.specs.declared.filtering.Pick.{Pick}

key_total : IsTotalOrder filter_key_cmp
key_total =
    then_total (on_total (λ k. k.missing_weight) nat_cmp_total)
    (then_total (on_total (λ k. k.item) nat_cmp_total)
    (then_total (on_total (λ k. k.lang) nat_list_cmp_total)
    (on_total (λ k. k.place) nat_cmp_total)))

key_is : (x y : FilterKey) → x.missing_weight ≡ y.missing_weight → x.item ≡ y.item → x.lang ≡ y.lang
    → x.place ≡ y.place → x ≡ y
key_is x y missing_weight item tag place =
    ap (λ (n : ℕ). record { missing_weight = n; item = x.item; lang = x.lang; place = x.place })
    missing_weight
    ∙ (ap (λ (n : ℕ).
    record { missing_weight = y.missing_weight; item = n; lang = x.lang; place = x.place }) item
    ∙ (ap (λ (t : List ℕ).
    record { missing_weight = y.missing_weight; item = y.item; lang = t; place = x.place }) tag
    ∙ ap (λ (n : ℕ).
    record { missing_weight = y.missing_weight; item = y.item; lang = y.lang; place = n })
    place))

key_tied : (x y : FilterKey) → filter_key_cmp x y ≡ Equal → x ≡ y
key_tied x y e =
    let missing_weight = then_tied _ _ e in
    let item = then_tied _ _ missing_weight.1 in
    let lang = then_tied _ _ item.1 in
    key_is x y (nat_tied x.missing_weight y.missing_weight missing_weight.0)
    (nat_tied x.item y.item item.0) (text_tied x.lang y.lang lang.0)
    (nat_tied x.place y.place lang.1)

-- A language at a place has at most one key.
pub one_key : (scheme : Scheme) (items : List Item) (lang : List ℕ) (place : ℕ) (x y : FilterKey)
    → IsKey scheme items lang place x → IsKey scheme items lang place y → x ≡ y
one_key scheme items lang place x y a b =
    let same = one_decision scheme items lang y.item x.item b.weight a.weight b.decided a.decided in
    key_is x y (a.missing_is ∙ (ap (λ (n : ℕ). 1000 - n) same.1 ∙ sym b.missing_is)) same.0
    (a.lang_is ∙ sym b.lang_is) (a.place_is ∙ sym b.place_is)

one_keys : (scheme : Scheme) (items : List Item) (place : ℕ) (tags : List (List ℕ))
    (xs ys : List FilterKey) → AreKeys scheme items place tags xs
    → AreKeys scheme items place tags ys → xs ≡ ys
one_keys scheme items place [] [] [] a b = refl
one_keys scheme items place [] [] (y ∷ ys) a b = absurd b
one_keys scheme items place [] (x ∷ xs) ys a b = absurd a
one_keys scheme items place (tag ∷ tags) [] [] a b = refl
one_keys scheme items place (tag ∷ tags) [] (y ∷ ys) a b = elim b [
  | inl n ↦ one_keys scheme items (place + 1) tags [] (y ∷ ys) a.1 n.1
  | inr k ↦ absurd (a.0 y k.0)
]
one_keys scheme items place (tag ∷ tags) (x ∷ xs) [] a b = elim a [
  | inl n ↦ one_keys scheme items (place + 1) tags (x ∷ xs) [] n.1 b.1
  | inr k ↦ absurd (b.0 x k.0)
]
one_keys scheme items place (tag ∷ tags) (x ∷ xs) (y ∷ ys) a b = elim a [
  | inl n ↦ elim b [
    | inl m ↦ one_keys scheme items (place + 1) tags (x ∷ xs) (y ∷ ys) n.1 m.1
    | inr k ↦ absurd (n.0 y k.0)
  ]
  | inr j ↦ elim b [
    | inl m ↦ absurd (m.0 x j.0)
    | inr k ↦
        ap (λ (z : FilterKey). z ∷ xs) (one_key scheme items tag place x y j.0 k.0)
        ∙ ap (λ (zs : List FilterKey). y ∷ zs)
        (one_keys scheme items (place + 1) tags xs ys j.1 k.1)
  ]
]

-- A priority list filters the same languages in one way alone.
pub one_filtered : (scheme : Scheme) (items : List Item) (tags : List (List ℕ)) (a b : List Pick)
    → IsFiltered scheme items tags a → IsFiltered scheme items tags b → a ≡ b
one_filtered scheme items tags a b f g =
    let all : f.all ≡ g.all = one_keys scheme items 0 tags f.all g.all f.all_ok g.all_ok in
    f.picks_are
    ∙ (ap (map pick_of)
    (one_order filter_key_cmp key_total key_tied g.all f.keys g.keys
    (subst (λ (x : List FilterKey). IsPermutation x f.keys) all f.each_once) f.ascending g.each_once
    g.ascending) ∙ sym g.picks_are)
