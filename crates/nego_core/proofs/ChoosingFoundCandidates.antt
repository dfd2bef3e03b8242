-- What lookup finds is an open candidate of an item that is tried, and it finds nothing where there
-- is none.
use Rattle.std.proofs.Common.{ℕ, ◌≡◌, List, [], ◌∷◌, inl, inr, sym, subst, arith}
use Rattle.std.specs.Prelude.{zero, suc, Some, None, Bool, IsTrue, All, Contains, filter}
use Rattle.std.specs.List.{slice_get}
use Rattle.std.proofs.lemmas.List.Elements.{All-contains, All-contains_itself, All-head, All-tail}
use Rattle.std.proofs.lemmas.List.Elements.{Contains-append_cases, Contains-append_left}
use Rattle.std.proofs.lemmas.List.Elements.{Contains-append_right}
use Rattle.std.proofs.lemmas.List.Sorted.{All-permutation, Contains-permutation}
use Rattle.list_core.proofs.Basics.{all_passed, contains_first, contains_passed, stands_at}
use Rattle.nego_core.proofs.ChoosingOrderLemmas.{each_once}
use Rattle.list_core.specs.Item.{Item}
use Rattle.list_core.specs.LookupOrder.{is_tried, IsOrder}
use Rattle.nego_core.specs.Choosing.{IsOpen, IsLookedUp, all_candidates}
use Rattle.list_core.specs.Candidates.{candidates_of}

-- an item of the list that is tried
abbrev pub IsTriedOf : List Item → Item → Type 0
IsTriedOf items i = Contains items i × IsTrue (is_tried i)

candidate_of_one : (P : Item → Type 0) (items : List Item) (text : List (List ℕ)) → All P items
    → Contains (all_candidates items) text → (i : Item) × P i × Contains (candidates_of i) text
candidate_of_one P [] text all c = absurd (let low = c.1 in omega arith)
candidate_of_one P (i ∷ items) text all c =
    elim (Contains-append_cases (candidates_of i) (all_candidates items) text c) [
      | inl here ↦ (i, All-head P i items all, here)
      | inr later ↦ candidate_of_one P items text (All-tail P i items all) later
    ]

-- those in the order are such
pub each_tried : (items ordered : List Item) → IsOrder items ordered → All (IsTriedOf items) ordered
each_tried items ordered o =
    All-permutation (IsTriedOf items) (filter is_tried items) ordered (each_once items ordered o)
    (all_passed (Contains items) (IsTriedOf items) is_tried items (λ i c e. (c, e))
    (All-contains_itself items))

-- what is found is the lookup text of the range of an item that is tried, or a truncation of it
pub found_candidate : (items : List Item) (held : List ℕ → Bool) (found : List (List ℕ))
    → IsLookedUp items held (Some found)
    → (item : Item) × Contains items item × Contains (candidates_of item) found
    × IsTrue (is_tried item)
found_candidate items held found l =
    let first = l.found_is in
    let c : Contains (all_candidates l.ordered) found =
    subst (λ (x : List (List (List ℕ))). Contains x found) (sym first.whole)
    (Contains-append_right first.before (found ∷ first.after) found
    (contains_first found first.after)) in
    let one =
    candidate_of_one (IsTriedOf items) l.ordered found (each_tried items l.ordered l.order_ok)
    c in
    (one.0, one.1.0, one.2, one.1.1)

-- and is open
pub found_open : (items : List Item) (held : List ℕ → Bool) (found : List (List ℕ))
    → IsLookedUp items held (Some found) → IsOpen items held found
found_open items held found l = l.found_is.passes

candidate_of_each : (items : List Item) (i : Item) (text : List (List ℕ)) → Contains items i
    → Contains (candidates_of i) text → Contains (all_candidates items) text
candidate_of_each items i text c d = of items c.0 (stands_at items c.0 i c.1 (sym c.2)) where
  of : (items : List Item) (k : ℕ) → slice_get items k ≡ Some i
      → Contains (all_candidates items) text
  of [] k s = cc
  of (j ∷ items) zero s = let e : i ≡ j = cc in
      Contains-append_left (candidates_of j) (all_candidates items) text
      (subst (λ (x : Item). Contains (candidates_of x) text) e d)
  of (j ∷ items) (suc k) s =
      Contains-append_right (candidates_of j) (all_candidates items) text (of items k s)

-- where nothing is found no candidate of an item that is tried is open
pub none_open : (items : List Item) (held : List ℕ → Bool) (item : Item) (candidate : List (List ℕ))
    → IsLookedUp items held None → Contains items item → IsTrue (is_tried item)
    → Contains (candidates_of item) candidate → ¬ IsOpen items held candidate
none_open items held item candidate l c t d =
    let tried : Contains (filter is_tried items) item =
    contains_passed is_tried items c.0 item (stands_at items c.0 item c.1 (sym c.2)) t in
    let ordered : Contains l.ordered item =
    Contains-permutation (filter is_tried items) l.ordered item
    (each_once items l.ordered l.order_ok) tried in
    All-contains (λ (x : List (List ℕ)). ¬ IsOpen items held x) (all_candidates l.ordered) candidate
    l.found_is (candidate_of_each l.ordered item candidate ordered d)
