-- Where the places of keys are, in a walk through a map.
use Rattle.std.proofs.Common.{◌≡◌, ℕ, suc, zero, ◌+◌, ◌<◌, ◌≤◌, true, false, cond, List, [], ◌∷◌}
use Rattle.std.proofs.Common.{length, get_or, sym, ap, add-one, ◌∙◌, refl, arith}
use Rattle.std.specs.declared.cmp.Ordering.{Ordering}
use Rattle.std.specs.declared.cmp.Ordering.TheVariants.{Less, Equal, Greater}
use Rattle.std.specs.Ordering.{is_gt, is_eq, ordering_reverse}
use Rattle.std.specs.Cmp.{IsTotalOrder}
use Rattle.std.specs.FinMap.Entries.{is_sorted, below_all}
use Rattle.std.proofs.lemmas.List.{get_or_default}
use Rattle.cell_core.specs.Keyed.{IsMap}
use Rattle.cell_core.specs.inner.KeyedPlaces.{place_of, IsPlace, IsGap}
use Rattle.cell_core.proofs.Basics.{first_part, second_part}
use Rattle.cell_core.proofs.KeyedPlacesLemmas.{below-at, place_of-le, gap_at}

module _ {K : Type 0} (cmp : K → K → Ordering) (total : IsTotalOrder cmp) where
  -- what is less, seen from the other, is greater
  pub above : (x y : K) → cmp x y ≡ Less → cmp y x ≡ Greater
  above x y p = total.antisymm y x ∙ ap ordering_reverse p

  -- what is greater, seen from the other, is less
  pub below : (x y : K) → cmp x y ≡ Greater → cmp y x ≡ Less
  below x y p = total.antisymm y x ∙ ap ordering_reverse p

  -- above one that is above
  pub above_above : (x y z : K) → cmp x y ≡ Greater → cmp z y ≡ Less → cmp x z ≡ Greater
  above_above x y z p q = above z x (total.trans z y x q (below x y p))

same_if : (a p n : ℕ) → a ≤ p → p ≤ n → a ≤ n → (a < n → p ≤ a) → a ≡ p
same_if a p n h k l f = grind arith

module _ {K J : Type 0} (cmp : K → K → Ordering) where
  -- a key that is not above the one at a place has its place there, or before
  pub place_upto : (key : K) (es : List (K × J)) (i : ℕ) (d : K × J)
      → (let e = get_or es i d in is_gt (cmp key e.0) ≡ false) → i < length es
      → place_of cmp key es ≤ i
  place_upto key [] i d = λ e lt. omega arith
  place_upto key (e ∷ es) zero d = λ p lt. rw p (omega arith)
  place_upto key (e ∷ es) (suc i) d = λ p lt.
      elim (is_gt (cmp key e.0)) as (λ t. cond t (suc (place_of cmp key es)) 0 ≤ suc i) [
        | true ↦ omega (arith, place_upto key es i d p (omega (arith, lt)))
        | false ↦ omega arith
      ]

  module _ (total : IsTotalOrder cmp) where
    -- a key above the one at a place has its place after it
    pub place_after : (key : K) (es : List (K × J)) (i : ℕ) (d : K × J) → IsMap cmp es
        → (let e = get_or es i d in cmp key e.0 ≡ Greater) → i < length es
        → suc i ≤ place_of cmp key es
    place_after key [] i d = λ map p lt. absurd (omega (arith, lt))
    place_after key (e ∷ es) zero d = λ map p lt. let t : is_gt (cmp key e.0) ≡ true = ap is_gt p in
        rw t (omega arith)
    place_after key (e ∷ es) (suc i) d = λ map p lt.
        let rest : i < length es = omega (arith, lt) in
        let f = get_or es i d in
        let first : cmp e.0 f.0 ≡ Less =
        below-at cmp e.0 es i d (first_part (below_all cmp e.0 es) (is_sorted cmp es) map)
        rest in
        let t : is_gt (cmp key e.0) ≡ true = ap is_gt (above_above cmp total key f.0 e.0 p first) in
        rw t (omega (
          arith,
          place_after key es i d
              (second_part (below_all cmp e.0 es) (is_sorted cmp es) map) p rest,
        ))

    -- the greater key has its place no earlier
    pub place_ascends : (x y : K) (es : List (K × J)) → cmp x y ≡ Less
        → place_of cmp x es ≤ place_of cmp y es
    place_ascends x y [] p = omega arith
    place_ascends x y (e ∷ es) p =
        elim (cmp x e.0) as
        (λ r. cmp x e.0 ≡ r
        → cond (is_gt r) (suc (place_of cmp x es)) 0
        ≤ cond (is_gt (cmp y e.0)) (suc (place_of cmp y es)) 0) [
          | Less ↦ λ q. omega arith
          | Equal ↦ λ q. omega arith
          | Greater ↦ λ q.
              let t : is_gt (cmp y e.0) ≡ true =
              ap is_gt
              (above cmp total e.0 y (total.trans e.0 x y (below cmp total x e.0 q) p)) in
              rw t (omega (arith, place_ascends x y es p))
        ] refl

    -- the key was found
    pub place_found : (key : K) (es : List (K × J)) (at : ℕ) (d : K × J) → at ≤ place_of cmp key es
        → at < length es → (let e = get_or es at d in cmp key e.0 ≡ Equal) → IsPlace cmp key es at
    place_found key es at d le lt tie =
        let upto = place_upto key es at d (ap is_gt tie) lt in
        record {
          is = omega arith;
          in_range = lt;
          tied =
              λ f. ap (λ (e : K × J). cmp key e.0) (get_or_default es at f d lt) ∙ tie;
        }

    -- the key was passed
    pub gap_found : (key : K) (es : List (K × J)) (at : ℕ) → IsMap cmp es → at ≤ place_of cmp key es
        → at ≤ length es
        → ((d : K × J) → at < length es → (let e = get_or es at d in cmp key e.0 ≡ Less))
        → IsGap cmp key es at
    gap_found key [] at map le in_range less =
        record { is = omega (arith, le, in_range); in_range = in_range; absent = refl }
    gap_found key (e ∷ es) at map le in_range less =
        let all = e ∷ es in
        let upto : at < length all → place_of cmp key all ≤ at =
        λ lt. place_upto key all at e (ap is_gt (less e lt)) lt in
        let is =
        same_if at (place_of cmp key all) (length all) le (place_of-le cmp key all) in_range
        upto in
        gap_at total key all at is map (λ d lt. ap is_eq (less d lt))

    -- a key above the last is above all
    pub gap_at_end : (key : K) (es : List (K × J)) (i : ℕ) (d : K × J) → IsMap cmp es
        → suc i ≡ length es → (let e = get_or es i d in cmp key e.0 ≡ Greater)
        → IsGap cmp key es (length es)
    gap_at_end key es i d map is p =
        let after = place_after key es i d map p (omega arith) in
        gap_found key es (length es) map (omega arith) (omega arith)
        (λ d lt. absurd (omega (arith, lt)))

    -- the next key has a later place
    pub next_after_place : (k x : K) (es : List (K × J)) (at : ℕ) (d : K × J) → IsMap cmp es
        → IsPlace cmp k es at → cmp k x ≡ Less → at + 1 ≤ place_of cmp x es
    next_after_place k x es at d map p less =
        let f = get_or es at d in
        let tie : cmp k f.0 ≡ Equal = p.tied d in
        let here : cmp x f.0 ≡ Greater =
        above cmp total f.0 x (sym (total.congr k f.0 x tie) ∙ less) in
        omega (arith, place_after x es at d map here p.in_range)

    -- a key that ties with the one at a place has no earlier place
    pub place_tied : (key : K) (es : List (K × J)) (i : ℕ) (d : K × J) → IsMap cmp es
        → (let e = get_or es i d in cmp key e.0 ≡ Equal) → i < length es → i ≤ place_of cmp key es
    place_tied key [] i d = λ map p lt. absurd (omega (arith, lt))
    place_tied key (e ∷ es) zero d = λ map p lt. omega arith
    place_tied key (e ∷ es) (suc i) d = λ map p lt.
        let rest : i < length es = omega (arith, lt) in
        let f = get_or es i d in
        let first : cmp e.0 f.0 ≡ Less =
        below-at cmp e.0 es i d (first_part (below_all cmp e.0 es) (is_sorted cmp es) map)
        rest in
        let t : is_gt (cmp key e.0) ≡ true =
        ap is_gt (total.congr key f.0 e.0 p ∙ above cmp total e.0 f.0 first) in
        rw t (omega (
          arith,
          place_tied key es i d
              (second_part (below_all cmp e.0 es) (is_sorted cmp es) map) p rest,
        ))

    -- in a map a key that ties with the one at a place has its place there
    pub place_found_in_map : (key : K) (es : List (K × J)) (at : ℕ) (d : K × J) → IsMap cmp es
        → at < length es → (let e = get_or es at d in cmp key e.0 ≡ Equal) → IsPlace cmp key es at
    place_found_in_map key es at d map lt tie =
        place_found key es at d (place_tied key es at d map tie lt) lt tie

    -- keys of a map ascend from one place to the next
    pub ascends : (es : List (K × J)) (i : ℕ) (d : K × J) → IsMap cmp es → suc i < length es
        → (let e = get_or es i d in let f = get_or es (suc i) d in cmp e.0 f.0 ≡ Less)
    ascends [] i d map lt = absurd (omega (arith, lt))
    ascends (e ∷ es) zero d map lt =
        below-at cmp e.0 es 0 d (first_part (below_all cmp e.0 es) (is_sorted cmp es) map)
        (omega (arith, lt))
    ascends (e ∷ es) (suc i) d map lt =
        ascends es i d (second_part (below_all cmp e.0 es) (is_sorted cmp es) map)
        (omega (arith, lt))

    -- the next key of a walk is above this one
    pub next_above : (es : List (K × J)) (i : ℕ) (k : K) (v : J) (d : K × J) → IsMap cmp es
        → (k, v) ≡ get_or es i (k, v) → i + 1 < length es
        → (let f = get_or es (i + 1) d in cmp k f.0 ≡ Less)
    next_above es i k v d map is lt =
        let here : i < length es = omega arith in
        let more : suc i < length es = omega arith in
        rw add-one
        (ap (λ (e : K × J). let f = get_or es (suc i) d in cmp e.0 f.0)
        (is ∙ get_or_default es i (k, v) d here) ∙ ascends es i d map more)

    -- where a walk through one map goes on in the other
    pub on_after_place : (es other : List (K × J)) (i at : ℕ) (k : K) (v : J) (d : K × J)
        → IsMap cmp es → IsMap cmp other → (k, v) ≡ get_or es i (k, v) → IsPlace cmp k other at
        → i + 1 < length es
        → (let f = get_or es (i + 1) d in at + 1 ≤ place_of cmp f.0 other)
    on_after_place es other i at k v d map other_map is p lt = let f = get_or es (i + 1) d in
        next_after_place k f.0 other at d other_map p (next_above es i k v d map is lt)

    -- where a walk goes on in the other map, after a key that is not there
    pub on_after_gap : (es other : List (K × J)) (i at : ℕ) (k : K) (v : J) (d : K × J)
        → IsMap cmp es → (k, v) ≡ get_or es i (k, v) → IsGap cmp k other at → i + 1 < length es
        → (let f = get_or es (i + 1) d in at ≤ place_of cmp f.0 other)
    on_after_gap es other i at k v d map is gap lt = let f = get_or es (i + 1) d in
        omega (arith, gap.is, place_ascends k f.0 other (next_above es i k v d map is lt))
