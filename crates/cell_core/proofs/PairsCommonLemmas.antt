-- The walk that joins common values in place, and what is missing then.
--
-- For each entry of the other map its place among the own entries is found. If the key is there,
-- the value is joined in place; if not, the entry is noted with its gap. Only values change, so the
-- places of other keys stay. If the walk stops for want of memory, the map is on the way from the
-- old one to the join, as each value is the old one or the joined one.
use Rattle.std.proofs.Common.{◌≡◌, ℕ, suc, zero, ◌+◌, ◌<◌, ◌≤◌, true, false, cond, not, is_some}
use Rattle.std.proofs.Common.{List, [], ◌∷◌, ◌++◌, length, get_or, set, take, Option, Some, None}
use Rattle.std.proofs.Common.{sym, ap, ◌∙◌, subst, refl, arith, inl, inr, append-nil}
use Rattle.std.specs.declared.cmp.Ordering.{Ordering}
use Rattle.std.specs.Ordering.{is_gt, eq_by_cmp}
use Rattle.std.specs.Cmp.{IsTotalOrder}
use Rattle.std.specs.FinMap.Entries.{find, where_key, is_sorted-put, find-put, find_tied}
use Rattle.std.proofs.lemmas.List.{take_more}
use Rattle.std.proofs.lemmas.List.Elements.{filter-append}
use Rattle.cell_core.specs.Join.{JoinLaws}
use Rattle.cell_core.specs.Keyed.{IsMap, AgreeIfBoth, joined_if_both, BetweenIfBoth}
use Rattle.cell_core.specs.inner.KeyedLaws.{if_both_laws}
use Rattle.cell_core.specs.Keyed.{BetweenAtKeys}
use Rattle.cell_core.specs.inner.KeyedPlaces.{place_of, IsPlace, IsGap}
use Rattle.cell_core.specs.inner.InterleaveMissing.{pairs_of, AllGaps, or_other, kept_joined}
use Rattle.cell_core.specs.inner.InterleaveMissing.{is_new, IsCommonJoined}
use Rattle.cell_core.proofs.Basics.{tied_order}
use Rattle.cell_core.proofs.KeyedPlacesLemmas.{place_of-le, find_at_place, put_at_place, find-take}
use Rattle.cell_core.proofs.KeyedPlacesLemmas.{find-take_more, find-before, find_entry}

module _ {J : Type 0} (joined : J → J → J) where
  -- what may be absent, joined to none, stays
  pub kept_with_none : (a : Option J) → kept_joined joined a None ≡ a
  kept_with_none None = refl
  kept_with_none (Some x) = refl

  -- a key that one has not is in no entry joined so far
  pub parts_joined : (a b : Option J)
      → or_other (kept_joined joined a b) (cond (not (is_some a)) b None)
      ≡ joined_if_both joined a b
  parts_joined None b = refl
  parts_joined (Some x) None = refl
  parts_joined (Some x) (Some y) = refl

  kept_at_new : (a b : Option J) (v : J) → a ≡ None
      → kept_joined joined a b ≡ kept_joined joined a (Some v)
  kept_at_new a b v none = rw none refl

kept_between : {J : Type 0} {agree : J → J → Type 0} {joined : J → J → J}
    {between : J → J → J → Type 0} → JoinLaws agree joined between
    → (a b : Option J) → AgreeIfBoth agree a b → BetweenIfBoth between a (kept_joined joined a b) b
kept_between laws None b h = tt
kept_between laws (Some x) None h = refl
kept_between laws (Some x) (Some y) h = laws.between_last x y h

place_of-set : {K J : Type 0} (cmp : K → K → Ordering)
    → (q : K) (es : List (K × J)) (at : ℕ) (d : K × J) (w : J)
    → (let e = get_or es at d in place_of cmp q (set es at (e.0, w)) ≡ place_of cmp q es)
place_of-set cmp q [] at d w = refl
place_of-set cmp q (e ∷ es) zero d w = refl
place_of-set cmp q (e ∷ es) (suc at) d w =
    ap (λ n. cond (is_gt (cmp q e.0)) (suc n) 0) (place_of-set cmp q es at d w)

AllGaps-append : {K J : Type 0} (cmp : K → K → Ordering) (es : List (K × J)) (up : ℕ)
    (ms : List (ℕ × (K × J))) (m : ℕ × (K × J)) → AllGaps cmp es up ms
    → IsGap cmp m.1.0 es (m.0 + up) → AllGaps cmp es up (ms ++ m ∷ [])
AllGaps-append cmp es up [] m h gap = (gap, tt)
AllGaps-append cmp es up (n ∷ ms) m h gap = (h.0, AllGaps-append cmp es up ms m h.1 gap)

pairs_of-append : {K J : Type 0} (ms : List (ℕ × (K × J))) (m : ℕ × (K × J))
    → pairs_of (ms ++ m ∷ []) ≡ pairs_of ms ++ m.1 ∷ []
pairs_of-append [] m = refl
pairs_of-append (n ∷ ms) m = ap (λ xs. n.1 ∷ xs) (pairs_of-append ms m)

module _ {K J : Type 0} {cmp : K → K → Ordering} (total : IsTotalOrder cmp) {agree : J → J → Type 0}
    {joined : J → J → J} {between : J → J → J → Type 0} (laws : JoinLaws agree joined between)
    (old other : List (K × J)) (old_map : IsMap cmp old) (other_map : IsMap cmp other)
    (agrees : (q : K) → AgreeIfBoth agree (find cmp q old) (find cmp q other)) where
  -- the walk stops where it is
  pub stopped_kept : (now : List (K × J)) (i : ℕ) (missing : List (ℕ × (K × J)))
      → IsCommonJoined cmp joined old (take i other) now missing
      → (q : K) → BetweenIfBoth between (find cmp q old) (find cmp q now) (find cmp q other)
  stopped_kept now i missing s q =
      subst (λ m. BetweenIfBoth between (find cmp q old) m (find cmp q other)) (sym (s.at q))
      (elim (find-take cmp q i other) as
      (λ _. BetweenIfBoth between (find cmp q old)
      (kept_joined joined (find cmp q old) (find cmp q (take i other))) (find cmp q other)) [
        | inl none ↦
            let o : JoinLaws (AgreeIfBoth agree) (joined_if_both joined) (BetweenIfBoth between) =
            if_both_laws laws in
            subst (λ m. BetweenIfBoth between (find cmp q old) m (find cmp q other))
            (sym (ap (kept_joined joined (find cmp q old)) none
            ∙ kept_with_none joined (find cmp q old)))
            (o.between_first (find cmp q old) (find cmp q other) (agrees q))
        | inr all ↦
            subst (λ m. BetweenIfBoth between (find cmp q old) m (find cmp q other))
            (sym (ap (kept_joined joined (find cmp q old)) all))
            (kept_between laws (find cmp q old) (find cmp q other) (agrees q))
      ])

  -- where the walk stops, the map is on the way from the old one to the join
  pub stopped_between : (now : List (K × J)) (i : ℕ) (missing : List (ℕ × (K × J)))
      → IsCommonJoined cmp joined old (take i other) now missing
      → BetweenAtKeys cmp between old now other
  stopped_between now i missing s =
      record {
        first = old_map;
        middle = s.map;
        last = other_map;
        at =
            stopped_kept now i missing s;
      }

  module _ (now : List (K × J)) (i : ℕ) (missing : List (ℕ × (K × J)))
      (s : IsCommonJoined cmp joined old (take i other) now missing)
      (k : K) (v : J) (lt : i < length other) (is : (k, v) ≡ get_or other i (k, v)) where
    not_yet : find cmp k (take i other) ≡ None
    not_yet =
        ap (λ (e : K × J). find cmp e.0 (take i other)) is
        ∙ find-before cmp total other i (k, v) other_map lt

    untouched : find cmp k now ≡ find cmp k old
    untouched =
        s.at k ∙ ap (kept_joined joined (find cmp k old)) not_yet
        ∙ kept_with_none joined (find cmp k old)

    there : find cmp k other ≡ Some v
    there = find_entry cmp total other i k v other_map lt is

    module _ (at : ℕ) (d : K × J) (p : IsPlace cmp k now at) where
      had : (let e = get_or now at d in find cmp k old ≡ Some e.1)
      had = sym untouched ∙ find_at_place k now at d p

      -- the value at the key's place, where others were joined before, agrees with the other map's
      pub may_join : (let e = get_or now at d in agree e.1 v)
      may_join =
          subst (λ o. AgreeIfBoth agree o (Some v)) had
          (subst (AgreeIfBoth agree (find cmp k old)) there (agrees k))

      -- a value joined half way
      pub stopped_in_join : (w : J) → (let e = get_or now at d in between e.1 w v)
          → (let e = get_or now at d in BetweenAtKeys cmp between old (set now at (e.0, w)) other)
      stopped_in_join w h = record {
        first = old_map;
        middle =
            subst (IsMap cmp) (put_at_place k w now at d p) (is_sorted-put cmp total k w now s.map);
        last = other_map;
        at = λ q. subst (λ m. BetweenIfBoth between (find cmp q old) m (find cmp q other))
            (ap (find cmp q) (put_at_place k w now at d p))
            (subst (λ m. BetweenIfBoth between (find cmp q old) m (find cmp q other))
            (sym (find-put cmp total q k w now))
            (elim (eq_by_cmp cmp q k) as
            (λ t. eq_by_cmp cmp q k ≡ t
            → BetweenIfBoth between (find cmp q old) (cond t (Some w) (find cmp q now))
            (find cmp q other)) [
              | true ↦ λ t.
                  let tie = tied_order (cmp q k) t in
                  subst (λ o. BetweenIfBoth between o (Some w) (find cmp q other))
                  (sym had ∙ find_tied cmp total q k tie old)
                  (subst
                  (λ o. let e = get_or now at d in BetweenIfBoth between (Some e.1) (Some w) o)
                  (sym there ∙ find_tied cmp total q k tie other) h)
              | false ↦ λ t. stopped_kept now i missing s q
            ] refl));
      }

      -- a value joined
      pub common_one_more : (w : J) → (let e = get_or now at d in w ≡ joined e.1 v)
          → (let e = get_or now at d in
          IsCommonJoined cmp joined old (take (i + 1) other) (set now at (e.0, w)) missing)
      common_one_more w h = record {
        map = subst (IsMap cmp) (put_at_place k w now at d p)
            (is_sorted-put cmp total k w now s.map);
        same = λ q. place_of-set cmp q now at d w ∙ s.same q;
        at = λ q. ap (find cmp q) (sym (put_at_place k w now at d p)) ∙ find-put cmp total q k w now
            ∙ elim (eq_by_cmp cmp q k) as
            (λ t. eq_by_cmp cmp q k ≡ t
            → cond t (Some w) (find cmp q now)
            ≡ kept_joined joined (find cmp q old)
            (cond t (Some v) (find cmp q (take i other)))) [
              | true ↦ λ t.
                  let old_is = sym had ∙ find_tied cmp total q k (tied_order (cmp q k) t) old in
                  ap Some h ∙ ap (λ o. kept_joined joined o (Some v)) old_is
              | false ↦ λ t. s.at q
            ] refl
            ∙ ap (kept_joined joined (find cmp q old))
            (sym (find-take_more cmp total other i k v other_map lt is q));
        gaps = s.gaps;
        lacking =
            let not_new : is_new cmp old k ≡ false = ap (λ o. not (is_some o)) had in
            s.lacking ∙ sym (append-nil (where_key cmp (is_new cmp old) (take i other)))
            ∙ ap (λ b. where_key cmp (is_new cmp old) (take i other) ++ cond b ((k, v) ∷ []) [])
            (sym not_new)
            ∙ sym (filter-append (λ (e : K × J). is_new cmp old e.0) (take i other) ((k, v) ∷ []))
            ∙ ap (where_key cmp (is_new cmp old))
            (sym (take_more other i (k, v) lt
            ∙ ap (λ (e : K × J). take i other ++ e ∷ []) (sym is)));
      }

    -- an entry found missing
    pub missing_one_more : (at : ℕ) (l : K) (w : J) → IsGap cmp k now at → l ≡ k → w ≡ v
        → IsCommonJoined cmp joined old (take (i + 1) other) now (missing ++ (at, (l, w)) ∷ [])
    missing_one_more at l w gap same_key same_value =
        let none : find cmp k old ≡ None = sym untouched ∙ gap.absent in
        let m : ℕ × (K × J) = (at, (k, v)) in
        let up : at + 0 ≡ at = omega arith in
        let old_gap : IsGap cmp k old (at + 0) = record {
          is = up ∙ gap.is ∙ s.same k;
          in_range =
              subst (λ n. n ≤ length old) (sym (up ∙ gap.is ∙ s.same k)) (place_of-le cmp k old);
          absent = none;
        } in
        subst (λ (e : K × J). IsCommonJoined cmp joined old (take (i + 1) other) now
        (missing ++ (at, e) ∷ [])) (λ j. (sym same_key j, sym same_value j))
        (record {
          map = s.map;
          same = s.same;
          at = λ q. s.at q
              ∙ elim (eq_by_cmp cmp q k) as
              (λ t. eq_by_cmp cmp q k ≡ t
              → kept_joined joined (find cmp q old) (find cmp q (take i other))
              ≡ kept_joined joined (find cmp q old)
              (cond t (Some v) (find cmp q (take i other)))) [
                | true ↦
                    λ t. kept_at_new joined (find cmp q old) (find cmp q (take i other)) v
                    (sym (find_tied cmp total q k (tied_order (cmp q k) t) old) ∙ none)
                | false ↦ λ t. refl
              ] refl
              ∙ ap (kept_joined joined (find cmp q old))
              (sym (find-take_more cmp total other i k v other_map lt is q));
          gaps = AllGaps-append cmp old 0 missing m s.gaps old_gap;
          lacking =
              let is_new_key : is_new cmp old k ≡ true = ap (λ o. not (is_some o)) none in
              pairs_of-append missing m
              ∙ ap (λ xs. xs ++ (k, v) ∷ []) s.lacking
              ∙ ap (λ b. where_key cmp (is_new cmp old) (take i other) ++ cond b ((k, v) ∷ []) [])
              (sym is_new_key)
              ∙ sym (filter-append (λ (e : K × J). is_new cmp old e.0) (take i other) ((k, v) ∷ []))
              ∙ ap (where_key cmp (is_new cmp old))
              (sym (take_more other i (k, v) lt
              ∙ ap (λ (e : K × J). take i other ++ e ∷ []) (sym is)));
        })
