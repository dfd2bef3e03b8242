-- Keys that are greater than all others of a map.
use Rattle.std.proofs.Common.{◌≡◌, suc, ◌-◌, ◌<◌, true, false, cond}
use Rattle.std.proofs.Common.{List, [], ◌∷◌, length, get_or, All, slice_get, Some, None}
use Rattle.std.proofs.Common.{Result, Ok, Err, OnOk}
use Rattle.std.proofs.Common.{sym, ap, ◌∙◌, subst, refl, arith}
use Rattle.std.proofs.lemmas.List.Elements.{All-nil, All-cons, All-head, All-tail}
use Rattle.std.proofs.lemmas.Option.{get_or_from_slice_get, slice_get_read}
use Rattle.std.specs.declared.cmp.Ordering.{Ordering}
use Rattle.std.specs.declared.cmp.Ordering.TheVariants.{Less, Greater}
use Rattle.std.specs.declared.vec.Vec.{Vec}
use Rattle.std.specs.Ordering.{is_gt, is_eq}
use Rattle.std.specs.Cmp.{IsTotalOrder}
use Rattle.std.specs.FinMap.Entries.{find}
use Rattle.cell_core.specs.KeyedAbove.{IsAboveAll}
use Rattle.cell_core.specs.inner.KeyedPlaces.{place_of, IsGap}
use Rattle.cell_core.specs.Chunks.{all_of, AllFilled}
use Rattle.cell_core.proofs.Basics.{some_not_none, is_greater}
use Rattle.cell_core.proofs.KeyedWalkLemmas.{above, below}
use Rattle.cell_core.proofs.ChunksAppendLemmas.{last_of_chunks}

-- what follows from what holds at a success
pub on_ok_then : {T E P Q : Type 0} (r : Result T E) → (P → Q) → OnOk r P → OnOk r Q
on_ok_then (Ok x) f h = f h
on_ok_then (Err e) f h = tt

-- what holds of all holds of the last
of_last : {X : Type 0} (P : X → Type 0) (xs : List X) (x : X)
    → slice_get xs (length xs - 1) ≡ Some x → All P xs → P x
of_last P [] x is h = absurd (some_not_none x (sym is))
of_last P (y ∷ ys) x is h =
    let read = get_or_from_slice_get (y ∷ ys) (length (y ∷ ys) - 1) x x is in
    subst P read (h (length (y ∷ ys) - 1) x (omega arith))

module _ {K J : Type 0} (cmp : K → K → Ordering) (total : IsTotalOrder cmp) where
  place_above : (key : K) (es : List (K × J)) → IsAboveAll cmp key es
      → place_of cmp key es ≡ length es
  place_above key [] h = refl
  place_above key (e ∷ es) h =
      let IsLess = λ (d : K × J). cmp d.0 key ≡ Less in
      let first = above cmp total e.0 key (All-head IsLess e es h) in
      let later = place_above key es (All-tail IsLess e es h) in
      ap (λ r. cond (is_gt r) (suc (place_of cmp key es)) 0) first ∙ ap suc later

  find_above : (key : K) (es : List (K × J)) → IsAboveAll cmp key es → find cmp key es ≡ None
  find_above key [] h = refl
  find_above key (e ∷ es) h =
      let IsLess = λ (d : K × J). cmp d.0 key ≡ Less in
      let first = above cmp total e.0 key (All-head IsLess e es h) in
      let later = find_above key es (All-tail IsLess e es h) in
      ap (λ r. cond (is_eq r) (Some e.1) (find cmp key es)) first ∙ later

  -- a key above all goes to the end
  pub gap_above : (key : K) (es : List (K × J)) → IsAboveAll cmp key es
      → IsGap cmp key es (length es)
  gap_above key es h = record {
    is = sym (place_above key es h);
    in_range = omega arith;
    absent = find_above key es h;
  }

  -- a key that goes to the end is above all
  pub above_gap : (key : K) (es : List (K × J)) → length es ≡ place_of cmp key es
      → IsAboveAll cmp key es
  above_gap key [] h = All-nil (λ (d : K × J). cmp d.0 key ≡ Less)
  above_gap key (e ∷ es) h =
      elim (is_gt (cmp key e.0))
      as (λ t. is_gt (cmp key e.0) ≡ t
      → suc (length es) ≡ cond t (suc (place_of cmp key es)) 0 → IsAboveAll cmp key (e ∷ es)) [
        | true ↦ λ greater same.
            let IsLess = λ (d : K × J). cmp d.0 key ≡ Less in
            let first = below cmp total key e.0 (is_greater (cmp key e.0) greater) in
            All-cons IsLess e es first (above_gap key es (omega (arith, same)))
        | false ↦ λ _ same. absurd (omega (arith, same))
      ] refl h

  -- a key above all is above the last
  pub above_last : {Z : Type 0} (key : K)
      (cs : List (Vec (K × J) Z)) (c : Vec (K × J) Z) (e : K × J)
      → AllFilled cs → Some c ≡ slice_get cs (length cs - 1) → 0 < length c.items
      → e ≡ get_or c.items (length c.items - 1) e
      → IsAboveAll cmp key (all_of cs) → cmp key e.0 ≡ Greater
  above_last key cs c e filled is some read h =
      let at = length c.items - 1 in
      let there = slice_get_read c.items (length c.items) at e refl (omega (arith, some)) read in
      let last = last_of_chunks cs c filled is ∙ there in
      let IsLess = λ (d : K × J). cmp d.0 key ≡ Less in
      above cmp total e.0 key (of_last IsLess (all_of cs) e last h)
