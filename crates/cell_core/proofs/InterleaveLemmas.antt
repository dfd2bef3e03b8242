-- New entries moved to their places among the entries of a map.
--
-- The new entries are known with the gaps where they belong. The entries from the first gap on are
-- taken out, and put back one after another with the new ones between them, so that each moves
-- once. `IsInterleaved` is the invariant: what is in order so far, and the new entries left, which
-- belong after it. Once none is left the list is the map with all put. Joining the values of common
-- keys moves no gap, so the two may be done one after the other.
use Rattle.std.proofs.Common.{◌≡◌, ℕ, suc, ◌+◌, ◌≤◌, true, false, cond, not, is_some, List, [], ◌∷◌}
use Rattle.std.proofs.Common.{◌++◌, length, take, slice_get, Option, Some, None, sym, ap, ◌∙◌}
use Rattle.std.proofs.Common.{subst, refl, arith}
use Rattle.std.specs.Prelude.{T}
use Rattle.std.specs.declared.cmp.Ordering.{Ordering}
use Rattle.std.specs.declared.cmp.Ordering.TheVariants.{Less, Equal, Greater}
use Rattle.std.specs.Ordering.{is_gt, is_eq, is_lt, eq_by_cmp}
use Rattle.std.specs.Cmp.{IsTotalOrder}
use Rattle.std.specs.List.{insert}
use Rattle.std.specs.FinMap.Entries.{find, put, by_order, is_sorted, below_all, is_sorted-put}
use Rattle.std.specs.FinMap.Entries.{find-put, find_tied, is_sorted-where_key, find-where_key}
use Rattle.cell_core.specs.Keyed.{IsMap, joined_if_both}
use Rattle.cell_core.specs.inner.KeyedPlaces.{place_of}
use Rattle.cell_core.specs.inner.InterleaveMissing.{pairs_of, AllGaps, AllFrom, or_other}
use Rattle.cell_core.specs.inner.InterleaveMissing.{kept_joined, is_new, IsCommonJoined}
use Rattle.cell_core.proofs.Basics.{first_part, second_part, less_than, some_not_none, tied_order}
use Rattle.cell_core.proofs.KeyedPlacesLemmas.{place_of-le, put_at_gap}
use Rattle.cell_core.proofs.KeyedWalkLemmas.{above, below, above_above, place_ascends}
use Rattle.cell_core.proofs.PairsCommonLemmas.{parts_joined}

insert_between : {X : Type 0} (xs ys : List X) (y : X)
    → insert (xs ++ ys) (length xs) y ≡ (xs ++ y ∷ []) ++ ys
insert_between [] ys y = refl
insert_between (x ∷ xs) ys y = ap (λ zs. x ∷ zs) (insert_between xs ys y)

-- The front of two joined lists that is as long as the first is the first.
pub take_front : {X : Type 0} (xs ys : List X) (n : ℕ) → length xs ≡ n → take n (xs ++ ys) ≡ xs
take_front [] ys n e = rw (← e) refl
take_front (x ∷ xs) ys n e = rw (← e) (ap (λ zs. x ∷ zs) (take_front xs ys (length xs) refl))

-- A list of length 0 is empty.
pub empty_of : {X : Type 0} (xs : List X) → length xs ≡ 0 → xs ≡ []
empty_of [] e = refl
empty_of (x ∷ xs) e = absurd (omega (arith, e))

-- A value that may be absent is itself where the other is none.
pub or_none : {J : Type 0} (a : Option J) → or_other a None ≡ a
or_none None = refl
or_none (Some x) = refl

-- the state of the interleaving: what is in order, and the new entries that are left
pub record IsInterleaved {K J : Type 0} (cmp : K → K → Ordering) (start : List (K × J))
    (all : List (ℕ × (K × J))) (now : List (K × J)) (rest : List (ℕ × (K × J)))
    (moved up : ℕ) : Type 0 where
  pub map : IsMap cmp now
  pub sorted : IsMap cmp (pairs_of rest)
  pub gaps : AllGaps cmp now up rest
  pub ahead : AllFrom moved rest
  pub at : (q : K)
      → or_other (find cmp q now) (find cmp q (pairs_of rest))
      ≡ or_other (find cmp q start) (find cmp q (pairs_of all))

module _ {K J : Type 0} {cmp : K → K → Ordering} (total : IsTotalOrder cmp) where
  -- a new smaller key moves the place of a key up
  place_of-put : (q k : K) (v : J) (es : List (K × J)) → cmp q k ≡ Greater → find cmp k es ≡ None
      → place_of cmp q (put cmp k v es) ≡ suc (place_of cmp q es)
  place_of-put q k v [] = λ p none. let t : is_gt (cmp q k) ≡ true = ap is_gt p in rw t refl
  place_of-put q k v (e ∷ es) = λ p.
      elim (cmp k e.0) as (λ r. cmp k e.0 ≡ r → cond (is_eq r) (Some e.1) (find cmp k es) ≡ None
      → place_of cmp q (by_order r ((k, v) ∷ e ∷ es) ((e.0, v) ∷ es) (e ∷ put cmp k v es))
      ≡ suc (cond (is_gt (cmp q e.0)) (suc (place_of cmp q es)) 0)) [
        | Less ↦ λ h none. ap (λ r. cond (is_gt r) (suc (place_of cmp q (e ∷ es))) 0) p
        | Equal ↦ λ h none. absurd (some_not_none e.1 none)
        | Greater ↦ λ h none.
            let t : is_gt (cmp q e.0) ≡ true =
            ap is_gt (above_above cmp total q k e.0 p (below cmp total k e.0 h)) in
            rw t (ap suc (place_of-put q k v es p none))
      ] refl

  AllGaps-put : (k : K) (v : J) (es : List (K × J)) (up : ℕ) (ms : List (ℕ × (K × J)))
      → find cmp k es ≡ None → T (below_all cmp k (pairs_of ms)) → AllGaps cmp es up ms
      → AllGaps cmp (put cmp k v es) (up + 1) ms
  AllGaps-put k v es up [] none h gaps = tt
  AllGaps-put k v es up (m ∷ ms) none h gaps =
      let q = m.1.0 in
      let less : cmp k q ≡ Less =
      less_than (cmp k q) (first_part (is_lt (cmp k q)) (below_all cmp k (pairs_of ms)) h) in
      let greater : cmp q k ≡ Greater = above cmp total k q less in
      let place : place_of cmp q (put cmp k v es) ≡ suc (place_of cmp q es) =
      place_of-put q k v es greater none in
      let is : m.0 + (up + 1) ≡ place_of cmp q (put cmp k v es) =
      omega (arith, place, gaps.0.is) in (
        record {
          is = is;
          in_range =
              subst (λ n. n ≤ length (put cmp k v es)) (sym is)
              (place_of-le cmp q (put cmp k v es));
          absent =
              find-put cmp total q k v es
              ∙ ap (λ r. cond (is_eq r) (Some v) (find cmp q es)) greater ∙ gaps.0.absent;
        },
        AllGaps-put k v es up ms none
            (second_part (is_lt (cmp k q)) (below_all cmp k (pairs_of ms)) h) gaps.1,
      )

  AllFrom-gaps : (k : K) (es : List (K × J)) (at up : ℕ) (ms : List (ℕ × (K × J)))
      → at + up ≡ place_of cmp k es → T (below_all cmp k (pairs_of ms)) → AllGaps cmp es up ms
      → AllFrom at ms
  AllFrom-gaps k es at up [] is h gaps = tt
  AllFrom-gaps k es at up (m ∷ ms) is h gaps =
      let q = m.1.0 in
      let less : cmp k q ≡ Less =
      less_than (cmp k q) (first_part (is_lt (cmp k q)) (below_all cmp k (pairs_of ms)) h) in (
        omega (arith, is, gaps.0.is, place_ascends cmp total k q es less),
        AllFrom-gaps k es at up ms
            is (second_part (is_lt (cmp k q)) (below_all cmp k (pairs_of ms)) h) gaps.1,
      )

  -- the first of the new entries has all others after it
  pub AllFrom-first : (es : List (K × J)) (m : ℕ × (K × J)) (ms : List (ℕ × (K × J)))
      → Some m ≡ slice_get ms 0 → IsMap cmp (pairs_of ms) → AllGaps cmp es 0 ms → AllFrom m.0 ms
  AllFrom-first es m [] is sorted gaps = absurd (some_not_none m is)
  AllFrom-first es m (n ∷ ms) is sorted gaps =
      let same : m ≡ n = cc in
      subst (λ (x : ℕ × (K × J)). AllFrom x.0 (n ∷ ms)) (sym same) (
        omega arith,
        AllFrom-gaps n.1.0 es n.0 0 ms gaps.0.is
            (first_part (below_all cmp n.1.0 (pairs_of ms)) (is_sorted cmp (pairs_of ms)) sorted)
            gaps.1,
      )

  -- one new entry more
  pub interleaved_one_more : (start : List (K × J)) (all : List (ℕ × (K × J)))
      (front back : List (K × J)) (at : ℕ) (e : K × J) (rest : List (ℕ × (K × J)))
      (moved up new_up : ℕ)
      → IsInterleaved cmp start all (front ++ back) ((at, e) ∷ rest) moved up
      → length front ≡ at + up → new_up ≡ up + 1
      → IsInterleaved cmp start all ((front ++ e ∷ []) ++ back) rest at new_up
  interleaved_one_more start all front back at e rest moved up new_up s len new_is =
      let now = front ++ back in
      let k = e.0 in
      let v = e.1 in
      let gap = s.gaps.0 in
      let below_rest =
      first_part (below_all cmp k (pairs_of rest)) (is_sorted cmp (pairs_of rest)) s.sorted in
      let is : put cmp k v now ≡ (front ++ e ∷ []) ++ back =
      put_at_gap k v now (at + up) gap ∙ ap (λ n. insert now n e) (sym len)
      ∙ insert_between front back e in
      subst (λ n. IsInterleaved cmp start all ((front ++ e ∷ []) ++ back) rest at n) (sym new_is)
      (subst (λ xs. IsInterleaved cmp start all xs rest at (up + 1)) is
      (record {
        map = is_sorted-put cmp total k v now s.map;
        sorted =
            second_part (below_all cmp k (pairs_of rest)) (is_sorted cmp (pairs_of rest)) s.sorted;
        gaps = AllGaps-put k v now up rest gap.absent below_rest s.gaps.1;
        ahead = AllFrom-gaps k now at up rest gap.is below_rest s.gaps.1;
        at = λ q. ap (λ o. or_other o (find cmp q (pairs_of rest))) (find-put cmp total q k v now)
            ∙ elim (eq_by_cmp cmp q k) as
            (λ t. eq_by_cmp cmp q k ≡ t
            → or_other (cond t (Some v) (find cmp q now)) (find cmp q (pairs_of rest))
            ≡ or_other (find cmp q now) (cond t (Some v) (find cmp q (pairs_of rest)))) [
              | true ↦
                  λ t. ap (λ o. or_other o (Some v))
                  (sym gap.absent ∙ find_tied cmp total q k (tied_order (cmp q k) t) now)
              | false ↦ λ t. refl
            ] refl
            ∙ s.at q;
      }))

  -- what the common and the missing entries make
  pub joined_parts : (joined : J → J → J) (old other now new : List (K × J))
      (missing : List (ℕ × (K × J))) → IsCommonJoined cmp joined old other now missing
      → ((q : K) → find cmp q new ≡ or_other (find cmp q now) (find cmp q (pairs_of missing)))
      → (q : K) → find cmp q new ≡ joined_if_both joined (find cmp q old) (find cmp q other)
  joined_parts joined old other now new missing s h q =
      h q ∙ ap (λ o. or_other o (find cmp q (pairs_of missing))) (s.at q)
      ∙ ap (or_other (kept_joined joined (find cmp q old) (find cmp q other)))
      (ap (find cmp q) s.lacking
      ∙ find-where_key cmp (is_new cmp old) q
      (λ x t. ap (λ o. not (is_some o)) (find_tied cmp total q x t old)) other)
      ∙ parts_joined joined (find cmp q old) (find cmp q other)

  -- the missing entries are a map, as part of one
  pub missing_sorted : (joined : J → J → J) (old other now : List (K × J))
      (missing : List (ℕ × (K × J))) → IsMap cmp other
      → IsCommonJoined cmp joined old other now missing → IsMap cmp (pairs_of missing)
  missing_sorted joined old other now missing map s =
      subst (IsMap cmp) (sym s.lacking) (is_sorted-where_key cmp (is_new cmp old) other map)

  -- the gaps are the same once the values of common keys are joined
  gaps_same : (es fs : List (K × J)) (up : ℕ) (ms : List (ℕ × (K × J)))
      → ((q : K) → place_of cmp q fs ≡ place_of cmp q es)
      → ((q : K) → find cmp q es ≡ None → find cmp q fs ≡ None) → AllGaps cmp es up ms
      → AllGaps cmp fs up ms
  gaps_same es fs up [] same none gaps = tt
  gaps_same es fs up (m ∷ ms) same none gaps =
      let is : m.0 + up ≡ place_of cmp m.1.0 fs = gaps.0.is ∙ sym (same m.1.0) in (
        record {
          is = is;
          in_range =
              subst (λ n. n ≤ length fs) (sym is) (place_of-le cmp m.1.0 fs);
          absent =
              none m.1.0 gaps.0.absent;
        },
        gaps_same es fs up ms same none gaps.1,
      )

  -- in the map with the common values joined the missing ones go to the same places
  pub gaps_after : (joined : J → J → J) (old other now : List (K × J))
      (missing : List (ℕ × (K × J))) → IsCommonJoined cmp joined old other now missing
      → AllGaps cmp now 0 missing
  gaps_after joined old other now missing s =
      gaps_same old now 0 missing s.same
      (λ q none. s.at q ∙ ap (λ o. kept_joined joined o (find cmp q other)) none) s.gaps
