-- No place is picked twice.
use Rattle.std.proofs.Common.{ℕ, ◌≡◌, ◌≤◌, ◌<◌, ◌+◌, ◌==◌, List, [], ◌∷◌, cond, inl, inr, length}
use Rattle.std.proofs.Common.{get_or, sum_by, take, length-take-le, refl, sym, ◌∙◌, ap, subst}
use Rattle.std.proofs.Common.{arith}
use Rattle.std.specs.Prelude.{◌≢◌, All, AllPairs, IsPermutation}
use Rattle.std.proofs.lemmas.Bool.{cases_Bool}
use Rattle.std.proofs.lemmas.Bool.Decides.{nat_tests}
use Rattle.std.proofs.lemmas.List.{get_or-take}
use Rattle.std.proofs.lemmas.List.Elements.{All-nil, All-cons, All-weaker}
use Rattle.std.proofs.lemmas.List.Kept.{AllPairs-cons}
use Rattle.std.proofs.lemmas.List.Sorted.{sum_by-IsPermutation}
use Rattle.std.proofs.lemmas.List.Sums.{sum_by-cons, sum_by_more_le, get_or-le-sum_by}
use Rattle.list_core.proofs.Basics.{pairs_map}
use Rattle.list_core.proofs.IndexUnique.{sum_none, next_is}
use Rattle.list_core.specs.Item.{Item}
use Rattle.nego_core.specs.declared.filtering.FilterKey.{FilterKey}
use Rattle.nego_core.specs.Filtering.{AreKeys, IsFiltered, pick_of}
use Rattle.nego_core.specs.declared.filtering.Pick.{Pick}
use Rattle.list_core.specs.declared.scheme.Scheme.{Scheme}

-- ---- the keys of the languages, before they are sorted

keys_behind : (scheme : Scheme) (items : List Item) (from : ℕ) (langs : List (List ℕ))
    (keys : List FilterKey) → AreKeys scheme items from langs keys → All (λ k. from ≤ k.place) keys
keys_behind scheme items from [] [] a = All-nil (λ (k : FilterKey). from ≤ k.place)
keys_behind scheme items from [] (k ∷ keys) a = absurd a
keys_behind scheme items from (l ∷ langs) [] a = All-nil (λ (k : FilterKey). from ≤ k.place)
keys_behind scheme items from (l ∷ langs) (k ∷ keys) a = elim a [
  | inl x ↦
      All-weaker (λ (j : FilterKey). from + 1 ≤ j.place) (λ (j : FilterKey). from ≤ j.place)
      (λ j h. omega arith) (k ∷ keys) (keys_behind scheme items (from + 1) langs (k ∷ keys) x.1)
  | inr x ↦ All-cons (λ (j : FilterKey). from ≤ j.place) k keys
      (let p = x.0.place_is in omega arith)
      (All-weaker (λ (j : FilterKey). from + 1 ≤ j.place) (λ (j : FilterKey). from ≤ j.place)
      (λ j h. omega arith) keys (keys_behind scheme items (from + 1) langs keys x.1))
]

abbrev StandsBefore : FilterKey → FilterKey → Type 0
StandsBefore j k = j.place < k.place

keys_ascend : (scheme : Scheme) (items : List Item) (from : ℕ) (langs : List (List ℕ))
    (keys : List FilterKey) → AreKeys scheme items from langs keys → AllPairs StandsBefore keys
keys_ascend scheme items from [] [] a = λ i j d lt low. absurd (omega arith)
keys_ascend scheme items from [] (k ∷ keys) a = absurd a
keys_ascend scheme items from (l ∷ langs) [] a = λ i j d lt low. absurd (omega arith)
keys_ascend scheme items from (l ∷ langs) (k ∷ keys) a = elim a [
  | inl x ↦ keys_ascend scheme items (from + 1) langs (k ∷ keys) x.1
  | inr x ↦ AllPairs-cons StandsBefore k keys
      (All-weaker (λ (j : FilterKey). from + 1 ≤ j.place) (StandsBefore k)
      (λ j h. let p = x.0.place_is in omega arith) keys
      (keys_behind scheme items (from + 1) langs keys x.1))
      (keys_ascend scheme items (from + 1) langs keys x.1)
]

-- ---- how often a place is among keys

one_at : ℕ → FilterKey → ℕ
one_at n k = cond (k.place == n) 1 0

pairs_tail : (k : FilterKey) (keys : List FilterKey) → AllPairs StandsBefore (k ∷ keys)
    → AllPairs StandsBefore keys
pairs_tail k keys h =
    λ i j d lt low. rw (next_is k keys i d, next_is k keys j d) at
    (h (i + 1) (j + 1) d (omega arith) (omega arith))

others_none : (n : ℕ) (k : FilterKey) (keys : List FilterKey)
    → AllPairs StandsBefore (k ∷ keys) → k.place ≡ n → sum_by (one_at n) keys ≡ 0
unfolding one_at
others_none n k keys h e = sum_none (one_at n) keys (λ j d low.
    let before : k.place < (get_or (k ∷ keys) (j + 1) d).place =
    h 0 (j + 1) d (omega arith) (omega arith) in
    let same : get_or (k ∷ keys) (j + 1) d ≡ get_or keys j d = next_is k keys j d in
    other (get_or keys j d) n
    (let after : k.place < (get_or keys j d).place =
    subst (λ (x : FilterKey). k.place < x.place) same before in omega arith)) where
      other : (j : FilterKey) (n : ℕ) → n < j.place → one_at n j ≡ 0
      other j n h = grind (arith, nat_tests)

at_most_once : (n : ℕ) (keys : List FilterKey) → AllPairs StandsBefore keys
    → sum_by (one_at n) keys ≤ 1
unfolding one_at
at_most_once n [] h = omega arith
at_most_once n (k ∷ keys) h =
    let cons = sum_by-cons (one_at n) k keys in
    elim (cases_Bool (k.place == n)) [
      | inl e ↦ (let one : one_at n k ≡ 1 = rw e refl in
          let none = others_none n k keys h (grind (arith, nat_tests)) in
          omega (arith, cons, one, none))
      | inr e ↦ (let one : one_at n k ≡ 0 = rw e refl in
          let rest = at_most_once n keys (pairs_tail k keys h) in
          omega (arith, cons, one, rest))
    ]

at_least_twice : (n i j : ℕ) (d : FilterKey) (keys : List FilterKey) → i < j → j < length keys
    → (get_or keys i d).place ≡ n → (get_or keys j d).place ≡ n → 2 ≤ sum_by (one_at n) keys
unfolding one_at
at_least_twice n i j d keys lt low e f =
    let later = sum_by_more_le (one_at n) keys j d low in
    let taken : get_or (take j keys) i d ≡ get_or keys i d = get_or-take j keys i d lt in
    let sooner =
    get_or-le-sum_by (one_at n) (take j keys) i d
    (let size = length-take-le j keys (omega arith) in omega arith) in
    let first : one_at n (get_or (take j keys) i d) ≡ 1 =
    ap (one_at n) taken ∙ here (get_or keys i d) n e in
    let second : one_at n (get_or keys j d) ≡ 1 = here (get_or keys j d) n f in
    omega (arith, later, sooner, first, second) where
      here : (k : FilterKey) (n : ℕ) → k.place ≡ n → one_at n k ≡ 1
      here k n e = grind (arith, nat_tests)

kept_apart : (all keys : List FilterKey) → IsPermutation all keys → AllPairs StandsBefore all
    → AllPairs (λ j k. j.place ≢ k.place) keys
kept_apart all keys p h = λ i j d lt low same.
    let n : ℕ = (get_or keys j d).place in
    let once = at_most_once n all h in
    let twice = at_least_twice n i j d keys lt low same refl in
    let count = sum_by-IsPermutation (one_at n) all keys p in
    omega (arith, once, twice, count)

-- No two picks of a filtered list have the same place.
pub picks_apart : (scheme : Scheme) (items : List Item) (langs : List (List ℕ)) (picks : List Pick)
    → IsFiltered scheme items langs picks → AllPairs (λ p q. p.place ≢ q.place) picks
picks_apart scheme items langs picks f =
    subst (AllPairs (λ (p q : Pick). p.place ≢ q.place)) (sym f.picks_are)
    (pairs_map (λ (p q : Pick). p.place ≢ q.place) pick_of f.keys
    (kept_apart f.all f.keys f.each_once (keys_ascend scheme items 0 langs f.all f.all_ok)))
