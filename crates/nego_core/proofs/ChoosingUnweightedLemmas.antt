-- Lookup by a list without weights.
use Rattle.std.proofs.Common.{ℕ, ◌≡◌, ◌<◌, ◌==◌, List, [], ◌∷◌, Bool, inl, inr, refl, sym, ◌∙◌, ap}
use Rattle.std.proofs.Common.{subst, arith}
use Rattle.std.specs.Prelude.{Option, Some, None, IsTrue, filter, not, ◌&&◌}
use Rattle.std.proofs.lemmas.Bool.{cases_Bool}
use Rattle.std.proofs.lemmas.List.Elements.{All-head, All-tail, All-weaker}
use Rattle.std.proofs.lemmas.List.Sorted.{IsPermutation-refl}
use Rattle.lang_core.specs.Text.{joined}
use Rattle.nego_core.proofs.ChoosingNothingRefused.{no_tag_refused}
use Rattle.list_core.proofs.LookupOrderLemmas.{one_order_of}
use Rattle.nego_core.proofs.ChoosingOrderLemmas.{one_weight_sorted, turns_lack, turns_ascend}
use Rattle.nego_core.proofs.ChoosingOrderLemmas.{tried_are}
use Rattle.list_core.specs.Item.{Item}
use Rattle.list_core.specs.LookupOrder.{is_tried, order_keys_from, IsOrder}
use Rattle.nego_core.specs.Choosing.{IsOpen, IsLookedUp, MatchFirstOf, all_candidates}
use Rattle.nego_core.specs.ChoosingUnweighted.{AllUnweighted, is_other, IsFirstHeld}
use Rattle.list_core.specs.Item.{AllPositive}

positive : (items : List Item) → AllUnweighted items → AllPositive items
positive items h =
    All-weaker (λ (i : Item). i.weight ≡ 1000) (λ (i : Item). 0 < i.weight) (λ i e. omega arith)
    items h

-- ---- the order is that of the list

tried_is_other : (i : Item) → i.weight ≡ 1000 → is_tried i ≡ is_other i
tried_is_other i e = ap (λ (w : ℕ). not (w == 0) && is_other i) e

same_passed : (items : List Item) → AllUnweighted items
    → filter is_tried items ≡ filter is_other items
same_passed [] h = refl
same_passed (i ∷ items) h =
    let one : is_tried i ≡ is_other i =
    tried_is_other i (All-head (λ (x : Item). x.weight ≡ 1000) i items h) in
    let rest = same_passed items (All-tail (λ (x : Item). x.weight ≡ 1000) i items h) in
    elim (cases_Bool (is_other i)) [
      | inl e ↦ (let t = one ∙ e in rw (t, e) (ap (λ (xs : List Item). i ∷ xs) rest))
      | inr e ↦ (let t = one ∙ e in rw (t, e) rest)
    ]

written_order : (items : List Item) → AllUnweighted items → IsOrder items (filter is_other items)
written_order items h = record {
  keys = order_keys_from items 0;
  keys_ok =
      record {
        each_once = IsPermutation-refl (order_keys_from items 0);
        ascending =
            one_weight_sorted 0 (order_keys_from items 0) (turns_lack 1000 items h)
            (turns_ascend 0 items);
      };
  items_are = sym (same_passed items h) ∙ sym (tried_are items);
}

-- ---- what is open is what is held

first_alike : {X : Type 0} (P Q : X → Type 0) (list : List X) (found : Option X)
    → ((x : X) → P x → Q x) → ((x : X) → Q x → P x) → MatchFirstOf P list found
    → MatchFirstOf Q list found
first_alike P Q list None f g h = All-weaker (λ y. ¬ P y) (λ y. ¬ Q y) (λ y n q. n (g y q)) list h
first_alike P Q list (Some x) f g h =
    record {
      before = h.before;
      after = h.after;
      whole = h.whole;
      none_before =
          All-weaker (λ y. ¬ P y) (λ y. ¬ Q y) (λ y n q. n (g y q)) h.before h.none_before;
      passes =
          f x h.passes;
    }

abbrev IsHeld : (List ℕ → Bool) → List (List ℕ) → Type 0
IsHeld held c = IsTrue (held (joined c))

-- Without weights, what lookup finds is the first held text of the ranges as written.
pub first_held : (items : List Item) (held : List ℕ → Bool) (found : Option (List (List ℕ)))
    → AllUnweighted items → IsLookedUp items held found → IsFirstHeld items held found
first_held items held found h l =
    let same : l.ordered ≡ filter is_other items =
    one_order_of items l.ordered (filter is_other items) l.order_ok (written_order items h) in
    first_alike (IsOpen items held) (IsHeld held) (all_candidates (filter is_other items)) found
    (λ c o. o.0) (λ c t. (t, no_tag_refused items c (positive items h)))
    (subst (λ (xs : List Item). MatchFirstOf (IsOpen items held) (all_candidates xs) found) same
    l.found_is)

-- Without weights, the first held text of the ranges as written is what lookup finds.
pub looked_up_plain : (items : List Item) (held : List ℕ → Bool) (found : Option (List (List ℕ)))
    → AllUnweighted items → IsFirstHeld items held found → IsLookedUp items held found
looked_up_plain items held found h f = record {
  ordered = filter is_other items;
  order_ok = written_order items h;
  found_is =
      first_alike (IsHeld held) (IsOpen items held) (all_candidates (filter is_other items)) found
      (λ c t. (t, no_tag_refused items c (positive items h))) (λ c o. o.0) f;
}
