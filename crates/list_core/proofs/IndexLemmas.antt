-- The places of the items in the order of their ranges' bytes.
--
-- The index is the list of places, sorted by the range at each and then by place. A text is
-- searched by halves: before the position all ranges are below the text, from it on none is. So if
-- the range at the position has the text, its item is the first with it, and else no range has it.
-- Without an index the items are searched in written order, which finds the same item.
use Rattle.std.proofs.Common.{ℕ, ◌≡◌, ◌≤◌, ◌<◌, ◌+◌, List, [], ◌∷◌, true, false, inl, inr, refl}
use Rattle.std.proofs.Common.{sym, ◌∙◌, ap, subst, arith, length, get_or}
use Rattle.std.specs.Prelude.{Some, None, All, Contains, IsSorted, IsPermutation, map}
use Rattle.std.specs.List.{slice_get}
use Rattle.std.specs.declared.cmp.Ordering.{Ordering}
use Rattle.std.specs.declared.cmp.Ordering.TheVariants.{Less, Equal, Greater}
use Rattle.std.specs.Ordering.{nat_cmp, is_lt, ordering_then, ordering_reverse}
use Rattle.std.specs.Cmp.{IsTotalOrder}
use Rattle.std.specs.Str.{bytes_eq}
use Rattle.std.specs.Cmp.Lexicographic.{slice_cmp}
use Rattle.std.proofs.lemmas.Bool.{cases_Bool, cases_lt, cases_order, lt-ltb}
use Rattle.std.proofs.lemmas.Cmp.{nat_list_cmp_total, nat_cmp_total, on_total, then_total}
use Rattle.std.proofs.lemmas.Cmp.{tied_itself}
use Rattle.std.proofs.lemmas.Option.{slice_get_within}
use Rattle.std.proofs.lemmas.Slice.Eq.{bytes_eq-Decides}
use Rattle.std.proofs.lemmas.List.{length-map, get_or-map}
use Rattle.std.proofs.lemmas.List.Elements.{All-map, All-weaker}
use Rattle.std.proofs.lemmas.List.Sorted.{sorted_far, ranks_by, All-permutation}
use Rattle.std.proofs.lemmas.List.Sorted.{Contains-permutation, IsPermutation-map}
use Rattle.lang_core.proofs.Basics.{less_of as less_is}
use Rattle.list_core.proofs.Basics.{false_true, same_default, same_at, stands_at}
use Rattle.list_core.proofs.IndexUnique.{text_tied}
use Rattle.list_core.specs.Item.{Item}
use Rattle.list_core.specs.Index.{text_at, place_cmp, IsRangeIndex, IsFirstWith}
use Rattle.list_core.specs.inner.Index.{range_key_cmp, IsRangeKeyOf, AreRangeKeys, IsPosition}
use Rattle.list_core.specs.inner.Index.{MatchFirst}
use Rattle.list_core.specs.declared.index.RangeKey.{RangeKey}

-- ---- texts in order

abbrev text_cmp : List ℕ → List ℕ → Ordering
text_cmp = slice_cmp nat_cmp

not_below_itself : (x : List ℕ) → is_lt (text_cmp x x) ≡ true → ⊥
not_below_itself x h = let e : text_cmp x x ≡ Equal = tied_itself nat_list_cmp_total x in
    let f : is_lt (text_cmp x x) ≡ false = ap is_lt e in cc

below_on : (x y t : List ℕ) (o n : Ordering) → text_cmp x y ≡ o
    → is_lt (ordering_then (text_cmp y x) n) ≡ false → is_lt (text_cmp y t) ≡ true
    → is_lt (text_cmp x t) ≡ true
below_on x y t Less n e far h =
    ap is_lt (nat_list_cmp_total.trans x y t e (less_is (text_cmp y t) h))
below_on x y t Equal n e far h = ap is_lt (nat_list_cmp_total.congr x y t e) ∙ h
below_on x y t Greater n e far h =
    let back : text_cmp y x ≡ Less = nat_list_cmp_total.antisymm y x ∙ ap ordering_reverse e in
    let less : is_lt (ordering_then (text_cmp y x) n) ≡ true =
    ap (λ (o : Ordering). is_lt (ordering_then o n)) back in
    absurd (false_true (sym far ∙ less))

-- ---- places in order

place_total : (items : List Item) → IsTotalOrder (place_cmp items)
place_total items = then_total (on_total (text_at items) nat_list_cmp_total) nat_cmp_total

far_apart : (items : List Item) (places : List ℕ) (i j : ℕ) → IsSorted (place_cmp items) places
    → i ≤ j → j < length places
    → is_lt (place_cmp items (get_or places j 0) (get_or places i 0)) ≡ false
far_apart items places i j up le low =
    sorted_far (λ x y. is_lt (place_cmp items x y)) (ranks_by (place_total items) (λ p. p)) places
    up i j 0 le low

-- a range before one that is below a text is below it
pub below_before : (items : List Item) (places text : List ℕ) (i j : ℕ) → IsRangeIndex items places
    → i ≤ j → j < length places → is_lt (text_cmp (text_at items (get_or places j 0)) text) ≡ true
    → is_lt (text_cmp (text_at items (get_or places i 0)) text) ≡ true
below_before items places text i j index le low h =
    below_on (text_at items (get_or places i 0)) (text_at items (get_or places j 0)) text _
    (nat_cmp (get_or places j 0) (get_or places i 0)) refl
    (far_apart items places i j index.ascending le low) h

-- A range after one that is not below a text is not below it either.
pub not_below_after : (items : List Item) (places text : List ℕ) (i j : ℕ)
    → IsRangeIndex items places → i ≤ j → j < length places
    → is_lt (text_cmp (text_at items (get_or places i 0)) text) ≡ false
    → is_lt (text_cmp (text_at items (get_or places j 0)) text) ≡ false
not_below_after items places text i j index le low h =
    elim (cases_Bool (is_lt (text_cmp (text_at items (get_or places j 0)) text))) [
      | inl e ↦ absurd (false_true (sym h ∙ below_before items places text i j index le low e))
      | inr e ↦ e
    ]

-- ---- the item at a place

-- The text at a place is that of the range of the item there.
pub text_stands : (items : List Item) (k : ℕ) (i : Item) → slice_get items k ≡ Some i
    → text_at items k ≡ i.range
text_stands items k i s = rw s refl

-- where an item's place is in the index
record IsListed (places : List ℕ) (k : ℕ) : Type 0 where
  at : ℕ
  within : at < length places
  is : get_or places at 0 ≡ k

listed : (items : List Item) (places : List ℕ) (k : ℕ) (i : Item) → IsRangeIndex items places
    → slice_get items k ≡ Some i → IsListed places k
listed items places k i index s =
    let c = index.each k (slice_get_within items k i s) in
    record { at = c.0; within = c.1; is = same_default places c.0 0 k c.1 ∙ c.2 }

-- Where all ranges are below a text, no range has it.
pub none_found : (items : List Item) (places text : List ℕ) (position : ℕ)
    → IsRangeIndex items places → IsPosition items places text position
    → length places ≤ position → MatchFirst items text None
none_found items places text position index at past = λ k other s e.
    let l = listed items places k other index s in
    let below = at.below l.at (let w = l.within in omega arith) in
    let t : text_at items (get_or places l.at 0) ≡ text =
    ap (text_at items) l.is ∙ (text_stands items k other s ∙ e) in
    not_below_itself text (subst (λ (x : List ℕ). is_lt (text_cmp x text) ≡ true) t below)

greater_is : (o : Ordering) → is_lt o ≡ false → (o ≡ Equal → ⊥) → o ≡ Greater
greater_is Less h e = cc
greater_is Equal h e = absurd (e refl)
greater_is Greater h e = refl

less_first : (a b : Ordering) → a ≡ Less → is_lt (ordering_then a b) ≡ true
less_first a b e = ap (λ (o : Ordering). is_lt (ordering_then o b)) e

less_second : (a b : Ordering) → a ≡ Equal → b ≡ Less → is_lt (ordering_then a b) ≡ true
less_second a b e f = ap (λ (o : Ordering). is_lt (ordering_then o b)) e ∙ ap is_lt f

-- Where the first range that is not below a text is another, no range has the text.
pub other_found : (items : List Item) (places text : List ℕ) (position : ℕ)
    → IsRangeIndex items places → IsPosition items places text position → position < length places
    → (text_at items (get_or places position 0) ≡ text → ⊥) → MatchFirst items text None
other_found items places text position index at low differs = λ k other s e.
    let l = listed items places k other index s in
    let t : text_at items (get_or places l.at 0) ≡ text =
    ap (text_at items) l.is ∙ (text_stands items k other s ∙ e) in
    elim (cases_order l.at position) [
      | inl same ↦ differs (ap (λ (n : ℕ). text_at items (get_or places n 0)) (sym same) ∙ t)
      | inr r ↦ elim r [
        | inl less ↦
            not_below_itself text
            (subst (λ (x : List ℕ). is_lt (text_cmp x text) ≡ true) t (at.below l.at less))
        | inr more ↦
            (let far = far_apart items places position l.at index.ascending (omega arith) l.within
            in
            let above = at.above position (omega arith) low in
            let greater : text_cmp (text_at items (get_or places position 0)) text ≡ Greater =
            greater_is (text_cmp (text_at items (get_or places position 0)) text) above
            (λ q. differs (text_tied (text_at items (get_or places position 0)) text q)) in
            let less : text_cmp text (text_at items (get_or places position 0)) ≡ Less =
            nat_list_cmp_total.antisymm text (text_at items (get_or places position 0))
            ∙ ap ordering_reverse greater in
            let first : text_cmp (text_at items (get_or places l.at 0))
            (text_at items (get_or places position 0)) ≡ Less =
            ap (λ (x : List ℕ). text_cmp x (text_at items (get_or places position 0))) t ∙ less in
            false_true
            (sym far
            ∙ less_first
            (text_cmp (text_at items (get_or places l.at 0))
            (text_at items (get_or places position 0)))
            (nat_cmp (get_or places l.at 0) (get_or places position 0)) first))
      ]
    ]

-- The lesser of two numbers compares as `Less`.
pub nat_less : (m n : ℕ) → m < n → nat_cmp m n ≡ Less
nat_less m n h = rw (lt-ltb m n h) refl

no_earlier : (items : List Item) (places text : List ℕ) (position k : ℕ) (other : Item)
    → IsRangeIndex items places → IsPosition items places text position → position < length places
    → text_at items (get_or places position 0) ≡ text → k < get_or places position 0
    → slice_get items k ≡ Some other → other.range ≡ text → ⊥
no_earlier items places text position k other index at low same before s e =
    let l = listed items places k other index s in
    let t : text_at items (get_or places l.at 0) ≡ text =
    ap (text_at items) l.is ∙ (text_stands items k other s ∙ e) in
    elim (cases_order l.at position) [
      | inl q ↦
          (let p : get_or places l.at 0 ≡ get_or places position 0 =
          ap (λ (n : ℕ). get_or places n 0) q in let i = l.is in absurd (omega arith))
      | inr r ↦ elim r [
        | inl less ↦
            not_below_itself text
            (subst (λ (x : List ℕ). is_lt (text_cmp x text) ≡ true) t (at.below l.at less))
        | inr more ↦
            (let far = far_apart items places position l.at index.ascending (omega arith) l.within
            in
            let tie : text_cmp (text_at items (get_or places l.at 0))
            (text_at items (get_or places position 0)) ≡ Equal =
            ap (λ (x : List ℕ). text_cmp (text_at items (get_or places l.at 0)) x)
            (same ∙ sym t)
            ∙ tied_itself nat_list_cmp_total (text_at items (get_or places l.at 0)) in
            let first : nat_cmp (get_or places l.at 0) (get_or places position 0) ≡ Less =
            nat_less (get_or places l.at 0) (get_or places position 0)
            (let i = l.is in omega arith) in
            false_true
            (sym far
            ∙ less_second
            (text_cmp (text_at items (get_or places l.at 0))
            (text_at items (get_or places position 0)))
            (nat_cmp (get_or places l.at 0) (get_or places position 0)) tie first))
      ]
    ]

-- Where the first range that is not below a text is the text, its item is the first with it.
pub one_found : (items : List Item) (places text : List ℕ) (position : ℕ) (i : Item)
    → IsRangeIndex items places → IsPosition items places text position → position < length places
    → slice_get items (get_or places position 0) ≡ Some i → i.range ≡ text
    → MatchFirst items text (Some (get_or places position 0))
one_found items places text position i index at low s same =
    let t : text_at items (get_or places position 0) ≡ text =
    text_stands items (get_or places position 0) i s ∙ same in
    record {
      item = i;
      stands = s;
      same = same;
      first =
          λ k other before o e. no_earlier items places text position k other index at low t before
          o e;
    }

-- ---- the index is made

range_key_of : (items : List Item) (keys : List RangeKey) → AreRangeKeys items (length items) keys
    → All (IsRangeKeyOf items) keys
range_key_of items keys a = λ k d low.
    let n : k < length items = (let m = a.as_many in omega arith) in
    let p = a.place_is k d n in
    record { within = omega arith; text_is = a.text_is k d n ∙ ap (text_at items) (sym p) }

range_key_listed : (items : List Item) (keys : List RangeKey) (e : RangeKey) (k : ℕ)
    → AreRangeKeys items (length items) keys → k < length items
    → Contains (map (λ x. x.place) keys) k
range_key_listed items keys e k a low =
    let m = a.as_many in
    let size : length (map (λ (x : RangeKey). x.place) keys) ≡ length keys = simp length-map in (
      k,
      omega arith,
      get_or-map (λ (x : RangeKey). x.place) keys k e k (omega arith)
          ∙ a.place_is k e low,
    )

all_listed : (items : List Item) (keys : List RangeKey) (k : ℕ)
    → AreRangeKeys items (length items) keys → k < length items
    → Contains (map (λ x. x.place) keys) k
all_listed items [] k a low = absurd (let m = a.as_many in omega arith)
all_listed items (e ∷ keys) k a low = range_key_listed items (e ∷ keys) e k a low

places_ascend : (items : List Item) (keys : List RangeKey) → All (IsRangeKeyOf items) keys
    → IsSorted range_key_cmp keys → IsSorted (place_cmp items) (map (λ x. x.place) keys)
places_ascend items [] all up = λ k d low lt. absurd (omega arith)
places_ascend items (e ∷ keys) all up = λ k d low lt.
    let size : length (map (λ (x : RangeKey). x.place) (e ∷ keys)) ≡ length (e ∷ keys) =
    simp length-map in
    let one = get_or-map (λ (x : RangeKey). x.place) (e ∷ keys) k e d (omega arith) in
    let two = get_or-map (λ (x : RangeKey). x.place) (e ∷ keys) (k + 1) e d (omega arith) in
    let text_one = (all k e (omega arith)).text_is in
    let text_two = (all (k + 1) e (omega arith)).text_is in
    rw (one, two, ← text_one, ← text_two) (up k e low (omega arith))

places_within : (items : List Item) (keys : List RangeKey) → All (IsRangeKeyOf items) keys
    → All (λ p. p < length items) (map (λ x. x.place) keys)
places_within items keys all =
    All-map (λ p. p < length items) (λ (x : RangeKey). x.place) keys
    (All-weaker (IsRangeKeyOf items) (λ x. x.place < length items) (λ x h. h.within) keys all)

-- The places of the sorted keys, one for each item, are the index of the ranges.
pub index_made : (items : List Item) (keys sorted : List RangeKey) (places : List ℕ)
    → AreRangeKeys items (length items) keys → IsPermutation keys sorted
    → IsSorted range_key_cmp sorted → places ≡ map (λ x. x.place) sorted → IsRangeIndex items places
index_made items keys sorted places a same up e =
    let all : All (IsRangeKeyOf items) sorted =
    All-permutation (IsRangeKeyOf items) keys sorted same (range_key_of items keys a) in
    rw e (record {
      within = places_within items sorted all;
      each =
          λ k low.
          Contains-permutation (map (λ x. x.place) keys) (map (λ x. x.place) sorted) k
          (IsPermutation-map (λ x. x.place) keys sorted same) (all_listed items keys k a low);
      ascending = places_ascend items sorted all up;
    })

-- ---- how the first is found without an index

-- no item before the place has this range
abbrev pub NoneBefore : List Item → List ℕ → ℕ → Type 0
NoneBefore items text place =
    (k : ℕ) (other : Item) → k < place → slice_get items k ≡ Some other → other.range ≡ text → ⊥

-- Texts that do not compare as equal differ.
pub differs : (a b : List ℕ) → bytes_eq a b ≡ false → a ≡ b → ⊥
differs a b h e = false_true (sym h ∙ (bytes_eq-Decides a b).1 e)

-- An item whose range has the text, with none before it, is the first with it.
pub found_here : (items : List Item) (text : List ℕ) (place : ℕ) (i : Item) → place < length items
    → i ≡ get_or items place i → bytes_eq i.range text ≡ true → NoneBefore items text place
    → IsFirstWith items text place
found_here items text place i low e h none =
    record {
      item = i;
      stands = stands_at items place i low e;
      same =
          (bytes_eq-Decides i.range text).0 h;
      first = none;
    }

-- Where neither an item nor any before it has the text, none before the next place has it.
pub none_here : (items : List Item) (text : List ℕ) (place : ℕ) (i : Item) → place < length items
    → i ≡ get_or items place i → bytes_eq i.range text ≡ false → NoneBefore items text place
    → NoneBefore items text (place + 1)
none_here items text place i low e h none = λ k other lt s same. elim (cases_lt k place) [
  | inl before ↦ none k other before s same
  | inr at ↦
      differs i.range text h
      (ap (λ (x : Item). x.range)
      (sym (same_at items k place i other (omega arith) (stands_at items place i low e) s)) ∙ same)
]

-- Where no item before the end of the list has the text, no range has it.
pub none_of_all : (items : List Item) (text : List ℕ) (place : ℕ) → length items ≤ place
    → NoneBefore items text place → MatchFirst items text None
none_of_all items text place end none =
    λ k other s same. none k other (let low = slice_get_within items k other s in omega arith) s
    same

-- ---- how the position is found

-- The position is from low up to high.
pub record IsPositionWithin (items : List Item) (places text : List ℕ) (low high : ℕ) : Type 0 where
  pub ordered : low ≤ high
  pub within : high ≤ length places
  pub below : (k : ℕ) → k < low → is_lt (text_cmp (text_at items (get_or places k 0)) text) ≡ true
  pub above : (k : ℕ) → high ≤ k → k < length places
      → is_lt (text_cmp (text_at items (get_or places k 0)) text) ≡ false

-- Where the range in the middle is below the text, the position is after the middle.
pub position_above : (items : List Item) (places text : List ℕ) (low high middle : ℕ)
    → IsRangeIndex items places → IsPositionWithin items places text low high → middle < high
    → is_lt (text_cmp (text_at items (get_or places middle 0)) text) ≡ true
    → IsPositionWithin items places text (middle + 1) high
position_above items places text low high middle index s m h = record {
  ordered = omega arith;
  within = s.within;
  below =
      λ k lt.
      below_before items places text k middle index (omega arith) (let w = s.within in omega arith)
      h;
  above = s.above;
}

-- Where the range in the middle is not below the text, the position is at the middle or before it.
pub position_below : (items : List Item) (places text : List ℕ) (low high middle : ℕ)
    → IsRangeIndex items places → IsPositionWithin items places text low high → low ≤ middle
    → middle < high → is_lt (text_cmp (text_at items (get_or places middle 0)) text) ≡ false
    → IsPositionWithin items places text low middle
position_below items places text low high middle index s l m h = record {
  ordered = l;
  within = (let w = s.within in omega arith);
  below = s.below;
  above = λ k le lt. not_below_after items places text middle k index le lt h;
}
