-- The order of lookup: each item that is tried once, by weight downwards, then as written.
--
-- The keys of a list are made in written order and sorted by missing weight and place. Sorting
-- gives a permutation, so each item that is tried comes once. In sorted keys no weight is above an
-- earlier one, and keys of one weight keep their written order, as their places ascend.
use Rattle.std.proofs.Common.{ℕ, ◌≡◌, ◌≤◌, ◌<◌, ◌+◌, ◌-◌, ◌==◌, List, [], ◌∷◌, Some, Option, Bool}
use Rattle.std.proofs.Common.{true, false, cond, inl, inr, get_or, sum_by, refl, sym, ◌∙◌, ap}
use Rattle.std.proofs.Common.{subst, arith, None}
use Rattle.std.specs.Prelude.{suc, All, AllPairs, IsSorted, IsPermutation, map, filter}
use Rattle.std.specs.List.{filter_map, slice_get}
use Rattle.std.specs.Ordering.{is_lt}
use Rattle.std.proofs.lemmas.Bool.{cases_Bool}
use Rattle.std.proofs.lemmas.Bool.Decides.{nat_tests}
use Rattle.std.proofs.lemmas.Option.{get_or_from_slice_get}
use Rattle.std.proofs.lemmas.List.Elements.{All-nil, All-cons, All-head, All-tail, All-weaker}
use Rattle.std.proofs.lemmas.List.Kept.{AllPairs-cons, AllPairs-filter, IsSortedBy-filter}
use Rattle.std.proofs.lemmas.List.Sorted.{All-permutation, IsPermutation-map, sorted_far, ranks_by}
use Rattle.std.proofs.lemmas.List.Sorted.{sum_by-IsPermutation}
use Rattle.std.proofs.lemmas.List.Sums.{sum_by-cons}
use Rattle.list_core.proofs.Basics.{all_at, all_passed, pairs_map}
use Rattle.list_core.proofs.IndexUnique.{same_sums}
use Rattle.list_core.proofs.LookupOrderLemmas.{order_key_total, order_key_tied}
use Rattle.nego_core.proofs.ChoosingCandidatesLemmas.{ordered_items}
use Rattle.list_core.specs.Item.{Item}
use Rattle.list_core.specs.LookupOrder.{is_tried, order_key_cmp, order_keys_from, IsOrder}
use Rattle.list_core.specs.declared.lookup_order.OrderKey.{OrderKey}

-- ---- the keys in written order

-- an item is at the place of the key, which has the item's missing weight
abbrev IsOrderKeyOf : (ℕ → Option Item) → OrderKey → Type 0
IsOrderKeyOf get t = (i : Item) × (get t.place ≡ Some i) × (t.missing_weight ≡ 1000 - i.weight)

-- the items are those from a place on
abbrev StandFrom : (ℕ → Option Item) → ℕ → List Item → Type 0
StandFrom get k items = (n : ℕ) → get (k + n) ≡ slice_get items n

stands_first : (get : ℕ → Option Item) (k : ℕ) (i : Item) (items : List Item)
    → StandFrom get k (i ∷ items) → get k ≡ Some i
stands_first get k i items h = ap get (omega arith) ∙ h 0

stand_later : (get : ℕ → Option Item) (k : ℕ) (i : Item) (items : List Item)
    → StandFrom get k (i ∷ items) → StandFrom get (k + 1) items
stand_later get k i items h = λ n. ap get (omega arith) ∙ h (suc n)

tried_turned : (get : ℕ → Option Item) (k : ℕ) (items : List Item) → StandFrom get k items
    → filter_map (λ t. get t.place) (order_keys_from items k) ≡ filter is_tried items
tried_turned get k [] h = refl
tried_turned get k (i ∷ items) h =
    let here : get k ≡ Some i = stands_first get k i items h in
    let rest = tried_turned get (k + 1) items (stand_later get k i items h) in
    elim (cases_Bool (is_tried i)) [
      | inl e ↦ rw (e, here) (ap (λ (xs : List Item). i ∷ xs) rest)
      | inr e ↦ rw e rest
    ]

order_keys_of : (get : ℕ → Option Item) (k : ℕ) (items : List Item) → StandFrom get k items
    → All (IsOrderKeyOf get) (order_keys_from items k)
order_keys_of get k [] h = All-nil (IsOrderKeyOf get)
order_keys_of get k (i ∷ items) h =
    let rest = order_keys_of get (k + 1) items (stand_later get k i items h) in
    elim (cases_Bool (is_tried i)) [
      | inl e ↦
          rw e (All-cons (IsOrderKeyOf get) (record { missing_weight = 1000 - i.weight; place = k })
          (order_keys_from items (k + 1)) (i, stands_first get k i items h, refl) rest)
      | inr e ↦ rw e rest
    ]

turns_behind : (k : ℕ) (items : List Item) → All (λ t. k ≤ t.place) (order_keys_from items k)
turns_behind k [] = All-nil (λ (t : OrderKey). k ≤ t.place)
turns_behind k (i ∷ items) =
    let rest =
    All-weaker (λ (t : OrderKey). k + 1 ≤ t.place) (λ (t : OrderKey). k ≤ t.place)
    (λ t h. omega arith) (order_keys_from items (k + 1)) (turns_behind (k + 1) items) in
    elim (cases_Bool (is_tried i)) [
      | inl e ↦
          rw e (All-cons (λ (t : OrderKey). k ≤ t.place)
          (record { missing_weight = 1000 - i.weight; place = k }) (order_keys_from items (k + 1))
          (omega arith) rest)
      | inr e ↦ rw e rest
    ]

abbrev Precedes : OrderKey → OrderKey → Type 0
Precedes s t = s.place < t.place

-- The keys in written order have ascending places.
pub turns_ascend : (k : ℕ) (items : List Item) → AllPairs Precedes (order_keys_from items k)
turns_ascend k [] = λ i j d lt low. absurd (omega arith)
turns_ascend k (i ∷ items) = elim (cases_Bool (is_tried i)) [
  | inl e ↦
      rw e (AllPairs-cons Precedes (record { missing_weight = 1000 - i.weight; place = k })
      (order_keys_from items (k + 1))
      (All-weaker (λ (t : OrderKey). k + 1 ≤ t.place) (λ (t : OrderKey). k < t.place)
      (λ t h. omega arith) (order_keys_from items (k + 1)) (turns_behind (k + 1) items))
      (turns_ascend (k + 1) items))
  | inr e ↦ rw e (turns_ascend (k + 1) items)
]

-- keys of one missing weight, in written order, are in order
pub one_weight_sorted : (missing_weight : ℕ) (keys : List OrderKey)
    → All (λ t. t.missing_weight ≡ missing_weight) keys → AllPairs (λ s t. s.place < t.place) keys
    → IsSorted order_key_cmp keys
one_weight_sorted missing_weight keys same ascend = λ k d low lt.
    let a = same k d (omega arith) in
    let b = same (k + 1) d (omega arith) in
    let c = ascend k (k + 1) d (omega arith) (omega arith) in
    tied (get_or keys (k + 1) d) (get_or keys k d) (b ∙ sym a) (omega arith) where
      tied : (s t : OrderKey) → s.missing_weight ≡ t.missing_weight → t.place ≤ s.place
          → is_lt (order_key_cmp s t) ≡ false
      tied s t e h = grind (arith, nat_tests)

-- ---- the items of the keys

unset : Item
unset = record { range = []; weight = 0; listed = None }

item_of : List Item → OrderKey → Item
item_of items t = get_or items t.place unset

items_of_keys : (items : List Item) (keys : List OrderKey)
    → All (IsOrderKeyOf (slice_get items)) keys
    → ordered_items items keys ≡ map (item_of items) keys
unfolding item_of
items_of_keys items [] h = refl
items_of_keys items (t ∷ keys) h =
    let one = All-head (IsOrderKeyOf (slice_get items)) t keys h in
    let here : slice_get items t.place ≡ Some one.0 = one.1 in
    let same : get_or items t.place unset ≡ one.0 =
    get_or_from_slice_get items t.place one.0 unset one.1 in
    let rest = items_of_keys items keys (All-tail (IsOrderKeyOf (slice_get items)) t keys h) in
    rw here
    (ap (λ (i : Item). i ∷ ordered_items items keys) (sym same)
    ∙ ap (λ (xs : List Item). get_or items t.place unset ∷ xs) rest)

lack_of_item : (items : List Item) (t : OrderKey) → IsOrderKeyOf (slice_get items) t
    → t.missing_weight ≡ 1000 - (item_of items t).weight
unfolding item_of
lack_of_item items t h =
    h.2 ∙ ap (λ (i : Item). 1000 - i.weight)
    (sym (get_or_from_slice_get items t.place h.0 unset h.1))

written : (items : List Item) → All (IsOrderKeyOf (slice_get items)) (order_keys_from items 0)
written items = order_keys_of (slice_get items) 0 items (λ n. ap (slice_get items) (omega arith))

ordered_keys : (items : List Item) (keys : List OrderKey)
    → IsPermutation (order_keys_from items 0) keys → All (IsOrderKeyOf (slice_get items)) keys
ordered_keys items keys p =
    All-permutation (IsOrderKeyOf (slice_get items)) (order_keys_from items 0) keys p
    (written items)

ordered_is : (items ordered : List Item) → (o : IsOrder items ordered)
    → ordered ≡ map (item_of items) o.keys
ordered_is items ordered o =
    o.items_are ∙ items_of_keys items o.keys (ordered_keys items o.keys o.keys_ok.each_once)

-- The items of the keys in written order are those of the list that are tried.
pub tried_are : (items : List Item)
    → ordered_items items (order_keys_from items 0) ≡ filter is_tried items
tried_are items = tried_turned (slice_get items) 0 items (λ n. ap (slice_get items) (omega arith))

written_is : (items : List Item)
    → map (item_of items) (order_keys_from items 0) ≡ filter is_tried items
written_is items =
    sym (items_of_keys items (order_keys_from items 0) (written items)) ∙ tried_are items

-- the keys of items of one weight miss as much
pub turns_lack : (weight : ℕ) (items : List Item) → All (λ i. i.weight ≡ weight) items
    → All (λ t. t.missing_weight ≡ 1000 - weight) (order_keys_from items 0)
turns_lack weight items h =
    All-weaker (IsOrderKeyOf (slice_get items)) (λ (t : OrderKey). t.missing_weight ≡ 1000 - weight)
    (λ t of. of.2
    ∙ ap (λ (n : ℕ). 1000 - n)
    (all_at (λ (i : Item). i.weight ≡ weight) items t.place of.0 h of.1))
    (order_keys_from items 0) (written items)

-- each item that is tried, once
pub each_once : (items ordered : List Item) → IsOrder items ordered
    → IsPermutation (filter is_tried items) ordered
each_once items ordered o =
    subst (λ (xs : List Item). IsPermutation xs ordered) (written_is items)
    (subst (IsPermutation (map (item_of items) (order_keys_from items 0)))
    (sym (ordered_is items ordered o))
    (IsPermutation-map (item_of items) (order_keys_from items 0) o.keys o.keys_ok.each_once))

-- ---- by weight downwards

lack_ascends : (s t : OrderKey) → is_lt (order_key_cmp t s) ≡ false
    → s.missing_weight ≤ t.missing_weight
lack_ascends s t h = grind (arith, nat_tests)

small_item : (items : List Item) (t : OrderKey) → All (λ i. i.weight ≤ 1000) items
    → IsOrderKeyOf (slice_get items) t → (item_of items t).weight ≤ 1000
unfolding item_of
small_item items t small h =
    subst (λ (i : Item). i.weight ≤ 1000) (sym (get_or_from_slice_get items t.place h.0 unset h.1))
    (all_at (λ (i : Item). i.weight ≤ 1000) items t.place h.0 small h.1)

-- Where no weight is above 1000, the order of lookup has no weight that is above an earlier one.
pub weights_fall : (items ordered : List Item) → All (λ i. i.weight ≤ 1000) items
    → IsOrder items ordered → AllPairs (λ i j. j.weight ≤ i.weight) ordered
weights_fall items ordered small o =
    subst (AllPairs (λ (i j : Item). j.weight ≤ i.weight)) (sym (ordered_is items ordered o))
    (pairs_map (λ (i j : Item). j.weight ≤ i.weight) (item_of items) o.keys (λ i j d lt low.
    let all = ordered_keys items o.keys o.keys_ok.each_once in
    let s = get_or o.keys i d in
    let t = get_or o.keys j d in
    let of_s : IsOrderKeyOf (slice_get items) s = all i d (omega arith) in
    let of_t : IsOrderKeyOf (slice_get items) t = all j d low in
    let far : is_lt (order_key_cmp t s) ≡ false =
    sorted_far (λ a b. is_lt (order_key_cmp a b)) (ranks_by order_key_total (λ a. a)) o.keys
    o.keys_ok.ascending i j d (omega arith) low in
    let le = lack_ascends s t far in
    let lack_s = lack_of_item items s of_s in
    let lack_t = lack_of_item items t of_t in
    let small_s = small_item items s small of_s in
    let small_t = small_item items t small of_t in
    omega arith))

-- ---- items of one weight

sum_passed : {X : Type 0} (f : X → ℕ) (p : X → Bool) (xs : List X)
    → sum_by f (filter p xs) ≡ sum_by (λ x. cond (p x) (f x) 0) xs
sum_passed f p [] = refl
sum_passed f p (x ∷ xs) =
    let rest = sum_passed f p xs in
    let cons = sum_by-cons f x (filter p xs) in
    let whole = sum_by-cons (λ y. cond (p y) (f y) 0) x xs in
    elim (cases_Bool (p x)) [
      | inl e ↦ (let one : cond (p x) (f x) 0 ≡ f x = rw e refl in
          let kept : filter p (x ∷ xs) ≡ x ∷ filter p xs = rw e refl in
          ap (sum_by f) kept ∙ (cons ∙ ((omega (arith, rest, one)) ∙ sym whole)))
      | inr e ↦ (let one : cond (p x) (f x) 0 ≡ 0 = rw e refl in
          let dropped : filter p (x ∷ xs) ≡ filter p xs = rw e refl in
          ap (sum_by f) dropped ∙ ((omega (arith, rest, one)) ∙ sym whole))
    ]

passed_map : {X Y : Type 0} (p : Y → Bool) (f : X → Y) (xs : List X)
    → filter p (map f xs) ≡ map f (filter (λ x. p (f x)) xs)
passed_map p f [] = refl
passed_map {Y = Y} p f (x ∷ xs) = elim (cases_Bool (p (f x))) [
  | inl e ↦ rw e (ap (λ (ys : List Y). f x ∷ ys) (passed_map p f xs))
  | inr e ↦ rw e (passed_map p f xs)
]

-- The items of one weight that are tried have their written order in the order of lookup.
pub as_written : (items ordered : List Item) → IsOrder items ordered → (weight : ℕ)
    → filter (λ i. i.weight == weight) ordered
    ≡ filter (λ i. i.weight == weight) (filter is_tried items)
as_written items ordered o weight =
    let has : Item → Bool = λ i. i.weight == weight in
    let order_key_has : OrderKey → Bool = λ t. (item_of items t).weight == weight in
    let first = order_keys_from items 0 in
    let kept : filter order_key_has first ≡ filter order_key_has o.keys =
    same_sums order_key_cmp order_key_total order_key_tied (filter order_key_has first)
    (filter order_key_has o.keys)
    (one_weight_sorted (1000 - weight) (filter order_key_has first)
    (all_passed (IsOrderKeyOf (slice_get items))
    (λ (t : OrderKey). t.missing_weight ≡ 1000 - weight) order_key_has first
    (λ t h e. lack_of_item items t h
    ∙ ap (λ (n : ℕ). 1000 - n) (same_weight (item_of items t) weight e)) (written items))
    (AllPairs-filter Precedes order_key_has first (turns_ascend 0 items)))
    (IsSortedBy-filter (λ a b. is_lt (order_key_cmp a b)) (ranks_by order_key_total (λ a. a))
    order_key_has o.keys o.keys_ok.ascending)
    (λ f. sum_passed f order_key_has first
    ∙ (sym
    (sum_by-IsPermutation (λ t. cond (order_key_has t) (f t) 0) first o.keys
    o.keys_ok.each_once) ∙ sym (sum_passed f order_key_has o.keys))) in
    ap (filter has) (ordered_is items ordered o)
    ∙ (passed_map has (item_of items) o.keys
    ∙ (ap (map (item_of items)) (sym kept)
    ∙ (sym (passed_map has (item_of items) first) ∙ ap (filter has) (written_is items)))) where
      same_weight : (i : Item) (weight : ℕ) → (i.weight == weight) ≡ true → i.weight ≡ weight
      same_weight i weight e = grind (arith, nat_tests)
