-- What a map of maps and its flat list have in common.
--
-- A catalogue is kept by message and then by language, and its meaning is the flat list of pairs of
-- keys. To find a pair is to find the message and then the language; to put one is to put it in the
-- inner map, and that in the outer. The flat list of a map of maps is a map, and the flat list
-- tells the map of maps. So the join, agreement and what lies between can be said of either, and
-- mean the same.
use Rattle.std.proofs.Common.{◌≡◌, suc, ◌<◌, true, false, cond, List, [], ◌∷◌, ◌++◌, length, get_or}
use Rattle.std.proofs.Common.{Option, Some, None, sym, ap, ◌∙◌, subst, refl, arith, inl, inr}
use Rattle.std.specs.Prelude.{T, All}
use Rattle.std.specs.Option.{option_or}
use Rattle.std.specs.declared.cmp.Ordering.{Ordering}
use Rattle.std.specs.declared.cmp.Ordering.TheVariants.{Less, Equal, Greater}
use Rattle.std.specs.Ordering.{is_eq, is_lt, eq_by_cmp, ordering_then}
use Rattle.std.specs.Cmp.{IsTotalOrder, tied_itself, on_total, then_total}
use Rattle.std.specs.FinMap.Entries.{find, put, by_order, is_sorted, below_all, is_sorted-put}
use Rattle.std.specs.FinMap.Entries.{find-put, find_tied}
use Rattle.std.proofs.lemmas.Map.Lookups.{exact_pairs}
use Rattle.cell_core.specs.Join.{JoinLaws}
use Rattle.cell_core.specs.Keyed.{IsMap, AgreeIfBoth, joined_if_both, joined_maps, joined_entries}
use Rattle.cell_core.specs.Keyed.{joined_at, AgreeMaps, BetweenMaps, BetweenIfBoth}
use Rattle.cell_core.specs.inner.KeyedLaws.{joined_maps-IsMap, joined_of_maps, find-joined_maps}
use Rattle.cell_core.specs.inner.KeyedLaws.{same_maps, at_of, if_both_laws, map_laws}
use Rattle.cell_core.specs.Entry.{pair_cmp}
use Rattle.catalogue.specs.CatalogueFlat.{under, flat, IsInner, IsNested}
use Rattle.catalogue.specs.inner.CatalogueFlat.{found_in, inner_of}
use Rattle.cell_core.proofs.JoinAbsentLemmas.{joined_with_none}
use Rattle.cell_core.proofs.Basics.{first_part, second_part, both_parts, less_than}
use Rattle.cell_core.proofs.Basics.{tied_order as tied}
use Rattle.catalogue.proofs.Basics.{apart_first, some_same}
use Rattle.cell_core.proofs.KeyedPlacesLemmas.{find-below, find-at}

-- A value or none is the value.
pub or_none : {X : Type 0} (o : Option X) → option_or o None ≡ o
or_none None = refl
or_none (Some x) = refl

-- ---- all, one by one

-- A property of all elements is one of the first.
pub all_first : {X : Type 0} (P : X → Type 0) (x : X) (xs : List X) → All P (x ∷ xs) → P x
all_first P x xs h = h 0 x (omega arith)

-- A property of all elements is one of all after the first.
pub all_rest : {X : Type 0} (P : X → Type 0) (x : X) (xs : List X) → All P (x ∷ xs) → All P xs
all_rest P x xs h = λ k d lt. h (suc k) d (omega (arith, lt))

-- ---- the order of pairs

-- Pairs are totally ordered where both their parts are.
pub pair_total : {K L : Type 0} {P : K → K → Ordering} {Q : L → L → Ordering} → IsTotalOrder P
    → IsTotalOrder Q → IsTotalOrder (pair_cmp P Q)
pair_total {K} {L} tp tq =
    then_total (on_total (λ (x : K × L). x.0) tp) (on_total (λ (x : K × L). x.1) tq)

-- Pairs that compare as equal are equal, where that holds of both their parts.
pub pairs_exact : {K L : Type 0} (P : K → K → Ordering) (Q : L → L → Ordering)
    → ((x y : K) → P x y ≡ Equal → x ≡ y) → ((x y : L) → Q x y ≡ Equal → x ≡ y) → (x y : K × L)
    → pair_cmp P Q x y ≡ Equal → x ≡ y
pairs_exact P Q ep eq = exact_pairs P Q ep eq

-- ---- what is found

-- A search of two lists in sequence finds what the first has, or else what the second has.
pub find-append_lists : {K J : Type 0} (R : K → K → Ordering) (q : K) (xs ys : List (K × J))
    → find R q (xs ++ ys) ≡ option_or (find R q xs) (find R q ys)
find-append_lists R q [] ys = refl
find-append_lists R q (e ∷ xs) ys =
    elim (eq_by_cmp R q e.0) as
    (λ t. cond t (Some e.1) (find R q (xs ++ ys))
    ≡ option_or (cond t (Some e.1) (find R q xs)) (find R q ys)) [
      | true ↦ refl
      | false ↦ find-append_lists R q xs ys
    ]

module _ {K L J : Type 0} (P : K → K → Ordering) (Q : L → L → Ordering) where
  find-under : (k : K) (q : K × L) (es : List (L × J)) → P q.0 k ≡ Equal
      → find (pair_cmp P Q) q (under k es) ≡ find Q q.1 es
  find-under k q [] t = refl
  find-under k q (e ∷ es) t =
      λ i. cond (is_eq (ordering_then (t i) (Q q.1 e.0))) (Some e.1) (find-under k q es t i)

  find-under_other : (k : K) (q : K × L) (es : List (L × J)) → is_eq (P q.0 k) ≡ false
      → find (pair_cmp P Q) q (under k es) ≡ None
  find-under_other k q [] t = refl
  find-under_other k q (e ∷ es) t =
      ap (λ b. cond b (Some e.1) (find (pair_cmp P Q) q (under k es)))
      (apart_first (P q.0 k) (Q q.1 e.0) t) ∙ find-under_other k q es t

  module _ (tp : IsTotalOrder P) where
    -- find on the flat list is find, then find
    pub find-flat : (es : List (K × List (L × J))) → IsMap P es → (q : K × L)
        → find (pair_cmp P Q) q (flat es) ≡ found_in Q q.1 (find P q.0 es)
    find-flat [] m q = refl
    find-flat (e ∷ es) m q =
        find-append_lists (pair_cmp P Q) q (under e.0 e.1) (flat es)
        ∙ ap (option_or (find (pair_cmp P Q) q (under e.0 e.1)))
        (find-flat es (second_part (below_all P e.0 es) (is_sorted P es) m) q)
        ∙ elim (eq_by_cmp P q.0 e.0) as
        (λ t. eq_by_cmp P q.0 e.0 ≡ t
        → option_or (find (pair_cmp P Q) q (under e.0 e.1)) (found_in Q q.1 (find P q.0 es))
        ≡ found_in Q q.1 (cond t (Some e.1) (find P q.0 es))) [
          | true ↦ λ t.
              let tie = tied (P q.0 e.0) t in
              let none : find P q.0 es ≡ None =
              sym (find_tied P tp q.0 e.0 tie es)
              ∙ find-below P e.0 es (first_part (below_all P e.0 es) (is_sorted P es) m) in
              (λ i. option_or (find-under e.0 q e.1 tie i) (found_in Q q.1 (none i)))
              ∙ or_none (find Q q.1 e.1)
          | false ↦
              λ t. ap (λ o. option_or o (found_in Q q.1 (find P q.0 es)))
              (find-under_other e.0 q e.1 t)
        ] refl

    -- ---- what the flat list is sorted by

    below_under : (x : K × L) (k : K) (es : List (L × J)) → P x.0 k ≡ Less
        → T (below_all (pair_cmp P Q) x (under k es))
    below_under x k [] p = tt
    below_under x k (e ∷ es) p =
        both_parts (is_lt (ordering_then (P x.0 k) (Q x.1 e.0)))
        (below_all (pair_cmp P Q) x (under k es))
        (subst (λ r. T (is_lt (ordering_then r (Q x.1 e.0)))) (sym p) tt) (below_under x k es p)

    below_under_same : (k : K) (l : L) (es : List (L × J)) → T (below_all Q l es)
        → T (below_all (pair_cmp P Q) (k, l) (under k es))
    below_under_same k l [] h = tt
    below_under_same k l (e ∷ es) h =
        both_parts (is_lt (ordering_then (P k k) (Q l e.0)))
        (below_all (pair_cmp P Q) (k, l) (under k es))
        (subst (λ r. T (is_lt (ordering_then r (Q l e.0)))) (sym (tied_itself tp k))
        (first_part (is_lt (Q l e.0)) (below_all Q l es) h))
        (below_under_same k l es (second_part (is_lt (Q l e.0)) (below_all Q l es) h))

    below_append : (x : K × L) (fs gs : List ((K × L) × J)) → T (below_all (pair_cmp P Q) x fs)
        → T (below_all (pair_cmp P Q) x gs) → T (below_all (pair_cmp P Q) x (fs ++ gs))
    below_append x [] gs h k = k
    below_append x (a ∷ fs) gs h k =
        both_parts (is_lt (pair_cmp P Q x a.0)) (below_all (pair_cmp P Q) x (fs ++ gs))
        (first_part (is_lt (pair_cmp P Q x a.0)) (below_all (pair_cmp P Q) x fs) h)
        (below_append x fs gs
        (second_part (is_lt (pair_cmp P Q x a.0)) (below_all (pair_cmp P Q) x fs) h) k)

    -- a key whose first part is below all outer keys is below all keys of the flat list
    pub below_flat : (x : K × L) (es : List (K × List (L × J))) → T (below_all P x.0 es)
        → T (below_all (pair_cmp P Q) x (flat es))
    below_flat x [] h = tt
    below_flat x (e ∷ es) h =
        below_append x (under e.0 e.1) (flat es)
        (below_under x e.0 e.1
        (less_than (P x.0 e.0) (first_part (is_lt (P x.0 e.0)) (below_all P x.0 es) h)))
        (below_flat x es (second_part (is_lt (P x.0 e.0)) (below_all P x.0 es) h))

    sorted_under : (k : K) (es : List (L × J)) (rest : List ((K × L) × J)) → IsMap Q es
        → ((l : L) → T (below_all (pair_cmp P Q) (k, l) rest)) → IsMap (pair_cmp P Q) rest
        → IsMap (pair_cmp P Q) (under k es ++ rest)
    sorted_under k [] rest m below sorted = sorted
    sorted_under k (e ∷ es) rest m below sorted =
        both_parts (below_all (pair_cmp P Q) (k, e.0) (under k es ++ rest))
        (is_sorted (pair_cmp P Q) (under k es ++ rest))
        (below_append (k, e.0) (under k es) rest
        (below_under_same k e.0 es (first_part (below_all Q e.0 es) (is_sorted Q es) m))
        (below e.0))
        (sorted_under k es rest (second_part (below_all Q e.0 es) (is_sorted Q es) m) below sorted)

    -- the flat list of a map of maps is a map
    pub IsMap-flat : (es : List (K × List (L × J))) → IsNested P Q es
        → IsMap (pair_cmp P Q) (flat es)
    IsMap-flat [] n = tt
    IsMap-flat (e ∷ es) n =
        let m = n.outer in
        let here : IsInner Q e.1 = all_first (λ e. IsInner Q e.1) e es n.inners in
        sorted_under e.0 e.1 (flat es) here.map
        (λ l. below_flat (e.0, l) es (first_part (below_all P e.0 es) (is_sorted P es) m))
        (IsMap-flat es
        (record {
          outer = second_part (below_all P e.0 es) (is_sorted P es) m;
          inners =
              all_rest (λ e. IsInner Q e.1) e es n.inners;
        }))

    -- ---- inner maps, by what is found

    -- each inner map that is found is a map, and not empty
    pub found_inner : (es : List (K × List (L × J))) → IsNested P Q es → (k : K) (xs : List (L × J))
        → find P k es ≡ Some xs → IsInner Q xs
    found_inner [] n k xs = λ is. absurd (cc)
    found_inner (e ∷ es) n k xs =
        elim (eq_by_cmp P k e.0) as
        (λ t. cond t (Some e.1) (find P k es) ≡ Some xs → IsInner Q xs) [
          | true ↦ λ is. let same : e.1 ≡ xs = cc in
              subst (IsInner Q) same (all_first (λ e. IsInner Q e.1) e es n.inners)
          | false ↦
              λ is. found_inner es
              (record {
                outer = second_part (below_all P e.0 es) (is_sorted P es) n.outer;
                inners =
                    all_rest (λ e. IsInner Q e.1) e es n.inners;
              }) k xs is
        ]

    -- a map whose values are all maps with an entry is a map of maps
    pub nested_of_found : (es : List (K × List (L × J))) → IsMap P es
        → ((k : K) (xs : List (L × J)) → find P k es ≡ Some xs → IsInner Q xs) → IsNested P Q es
    nested_of_found es m h = record {
      outer = m;
      inners = λ i d lt. let e = get_or es i d in h e.0 e.1 (find-at P tp es i d m lt);
    }

-- ---- what is kept

put_some : {K J : Type 0} (R : K → K → Ordering) (k : K) (v : J) (es : List (K × J))
    → 0 < length (put R k v es)
put_some R k v [] = omega arith
put_some R k v (e ∷ es) =
    elim (R k e.0) as
    (λ r. 0 < length (by_order r ((k, v) ∷ e ∷ es) ((e.0, v) ∷ es) (e ∷ put R k v es))) [
      | Less ↦ omega arith
      | Equal ↦ omega arith
      | Greater ↦ omega arith
    ]

joined_some : {K J : Type 0} (R : K → K → Ordering) (joined : J → J → J) (xs ys : List (K × J))
    → 0 < length xs → 0 < length (joined_entries R joined xs ys)
joined_some R joined xs [] h = h
joined_some R joined xs (e ∷ ys) h =
    put_some R e.0 (joined_at joined (find R e.0 xs) e.1) (joined_entries R joined xs ys)

module _ {K L J : Type 0} (P : K → K → Ordering) (Q : L → L → Ordering) (tp : IsTotalOrder P)
    (tq : IsTotalOrder Q) where
  found_in-inner : (l : L) (o : Option (List (L × J))) → found_in Q l o ≡ find Q l (inner_of o)
  found_in-inner l None = refl
  found_in-inner l (Some es) = refl

  inner_map : (es : List (K × List (L × J))) → IsNested P Q es → (k : K)
      → IsMap Q (inner_of (find P k es))
  inner_map es n k =
      elim (find P k es) as (λ o. find P k es ≡ o → IsMap Q (inner_of o)) [
        | None ↦ λ e. tt
        | Some xs ↦ λ e. let inner = found_inner P Q tp es n k xs e in inner.map
      ] refl

  -- a value put at two keys
  abbrev pub put_in : K → L → J → List (K × List (L × J)) → List (K × List (L × J))
  put_in k l v es = put P k (put Q l v (inner_of (find P k es))) es

  -- a further inner map that is not empty
  pub nested_put : (es : List (K × List (L × J))) → IsNested P Q es → (k : K) (xs : List (L × J))
      → IsInner Q xs → IsNested P Q (put P k xs es)
  nested_put es n k xs inner =
      nested_of_found P Q tp (put P k xs es) (is_sorted-put P tp k xs es n.outer)
      (λ q ys. λ is.
      elim (eq_by_cmp P q k) as (λ t. cond t (Some xs) (find P q es) ≡ Some ys → IsInner Q ys) [
        | true ↦ λ e. subst (IsInner Q) (some_same xs ys e) inner
        | false ↦ λ e. found_inner P Q tp es n q ys e
      ] (sym (find-put P tp q k xs es) ∙ is))

  -- a map of cells with one put in is a map with an entry
  pub inner_put : (es : List (K × List (L × J))) → IsNested P Q es → (k : K) (l : L) (v : J)
      → IsInner Q (put Q l v (inner_of (find P k es)))
  inner_put es n k l v =
      record {
        map = is_sorted-put Q tq l v (inner_of (find P k es)) (inner_map es n k);
        some =
            put_some Q l v (inner_of (find P k es));
      }

  -- a map of maps with a cell put in is one
  pub nested_put_in : (es : List (K × List (L × J))) → IsNested P Q es → (k : K) (l : L) (v : J)
      → IsNested P Q (put_in k l v es)
  nested_put_in es n k l v =
      nested_put es n k (put Q l v (inner_of (find P k es))) (inner_put es n k l v)

  module _ (ep : (x y : K) → P x y ≡ Equal → x ≡ y) (eq : (x y : L) → Q x y ≡ Equal → x ≡ y) where
    -- a value put on the flat list is put in the inner map, and that in the outer
    pub put-flat : (es : List (K × List (L × J))) → IsNested P Q es → (k : K) (l : L) (v : J)
        → put (pair_cmp P Q) (k, l) v (flat es) ≡ flat (put_in k l v es)
    put-flat es n k l v =
        let R = pair_cmp P Q in
        let tr : IsTotalOrder (pair_cmp P Q) = pair_total tp tq in
        let later = nested_put_in es n k l v in
        same_maps (pair_cmp P Q) tr (pairs_exact P Q ep eq) (put (pair_cmp P Q) (k, l) v (flat es))
        (flat (put_in k l v es))
        (is_sorted-put (pair_cmp P Q) tr (k, l) v (flat es) (IsMap-flat P Q tp es n))
        (IsMap-flat P Q tp (put_in k l v es) later)
        (λ q. find-put (pair_cmp P Q) tr q (k, l) v (flat es)
        ∙ ap (cond (eq_by_cmp (pair_cmp P Q) q (k, l)) (Some v)) (find-flat P Q tp es n.outer q)
        ∙ elim (P q.0 k) as
        (λ r. P q.0 k ≡ r
        → cond (is_eq (ordering_then r (Q q.1 l))) (Some v) (found_in Q q.1 (find P q.0 es))
        ≡ found_in Q q.1
        (cond (is_eq r) (Some (put Q l v (inner_of (find P k es)))) (find P q.0 es))) [
          | Less ↦ λ t. refl
          | Greater ↦ λ t. refl
          | Equal ↦ λ t.
              ap (cond (eq_by_cmp Q q.1 l) (Some v))
              (found_in-inner q.1 (find P q.0 es)
              ∙ ap (λ o. find Q q.1 (inner_of o)) (sym (find_tied P tp q.0 k t es)))
              ∙ sym (find-put Q tq q.1 l v (inner_of (find P k es)))
        ] refl
        ∙ ap (found_in Q q.1) (sym (find-put P tp q.0 k (put Q l v (inner_of (find P k es))) es))
        ∙ sym (find-flat P Q tp (put_in k l v es) later.outer q))

    -- maps of maps with the same flat list are one
    pub same_nested : (xs ys : List (K × List (L × J))) → IsNested P Q xs → IsNested P Q ys
        → flat xs ≡ flat ys → xs ≡ ys
    same_nested xs ys m n same =
        same_maps P tp ep xs ys m.outer n.outer (λ k. at k (find P k xs) (find P k ys) refl refl)
      where
        find_both : (k : K) (l : L) → found_in Q l (find P k xs) ≡ found_in Q l (find P k ys)
        find_both k l =
            sym (find-flat P Q tp xs m.outer (k, l)) ∙ ap (find (pair_cmp P Q) (k, l)) same
            ∙ find-flat P Q tp ys n.outer (k, l)

        first_found : (zs : List (L × J)) → ((l : L) → find Q l zs ≡ None) → 0 < length zs → ⊥
        first_found [] h = λ some. omega (arith, some)
        first_found (z ∷ zs) h = λ some. let no : Some z.1 ≡ None =
            sym (ap (λ r. cond (is_eq r) (Some z.1) (find Q z.0 zs)) (tied_itself tq z.0))
            ∙ h z.0 in absurd (cc)

        at : (k : K) (a b : Option (List (L × J))) → find P k xs ≡ a → find P k ys ≡ b → a ≡ b
        at k None None e f = refl
        at k (Some us) None e f =
            absurd
            (let i = found_inner P Q tp xs m k us e in
            first_found us (λ l. ap (found_in Q l) (sym e) ∙ find_both k l ∙ ap (found_in Q l) f)
            i.some)
        at k None (Some ws) e f =
            absurd
            (let i = found_inner P Q tp ys n k ws f in
            first_found ws
            (λ l. ap (found_in Q l) (sym f) ∙ sym (find_both k l) ∙ ap (found_in Q l) e) i.some)
        at k (Some us) (Some ws) e f =
            let i = found_inner P Q tp xs m k us e in
            let j = found_inner P Q tp ys n k ws f in
            ap Some
            (same_maps Q tq eq us ws i.map j.map
            (λ l. ap (found_in Q l) (sym e) ∙ find_both k l ∙ ap (found_in Q l) f))

    module _ {agree : J → J → Type 0} {joined : J → J → J} {between : J → J → J → Type 0}
        (laws : JoinLaws agree joined between) where
      abbrev joined2 : List (K × List (L × J)) → List (K × List (L × J)) → List (K × List (L × J))
      joined2 = joined_maps P (joined_maps Q joined)

      -- the join of maps of maps is one
      pub nested_joined : (xs ys : List (K × List (L × J))) → IsNested P Q xs → IsNested P Q ys
          → IsNested P Q (joined2 xs ys)
      nested_joined xs ys m n =
          nested_of_found P Q tp (joined2 xs ys)
          (joined_maps-IsMap P tp (joined_maps Q joined) xs ys m.outer n.outer)
          (λ k zs. λ is. at k zs (find P k xs) (find P k ys) refl refl
          (sym (find-joined_maps P tp (joined_maps Q joined) xs ys m.outer n.outer k) ∙ is))
        where
          at : (k : K) (zs : List (L × J)) (a b : Option (List (L × J))) → find P k xs ≡ a
              → find P k ys ≡ b → joined_if_both (joined_maps Q joined) a b ≡ Some zs → IsInner Q zs
          at k zs None None e f h = absurd (cc)
          at k zs None (Some ws) e f h =
              subst (IsInner Q) (some_same ws zs h) (found_inner P Q tp ys n k ws f)
          at k zs (Some us) None e f h =
              subst (IsInner Q) (some_same us zs h) (found_inner P Q tp xs m k us e)
          at k zs (Some us) (Some ws) e f h =
              let i = found_inner P Q tp xs m k us e in
              let j = found_inner P Q tp ys n k ws f in
              subst (IsInner Q) (some_same (joined_maps Q joined us ws) zs h)
              (record {
                map = joined_maps-IsMap Q tq joined us ws i.map j.map;
                some =
                    subst (λ us. 0 < length us) (sym (joined_of_maps Q tq joined us ws i.map j.map))
                    (joined_some Q joined us ws i.some);
              })

      found_joined : (l : L) (a b : Option (List (L × J)))
          → ((us : List (L × J)) → a ≡ Some us → IsMap Q us)
          → ((ws : List (L × J)) → b ≡ Some ws → IsMap Q ws)
          → found_in Q l (joined_if_both (joined_maps Q joined) a b)
          ≡ joined_if_both joined (found_in Q l a) (found_in Q l b)
      found_joined l None b h k = refl
      found_joined l (Some us) None h k = sym (joined_with_none joined (find Q l us))
      found_joined l (Some us) (Some ws) h k =
          find-joined_maps Q tq joined us ws (h us refl) (k ws refl) l

      -- the flat list of the join is the join of the flat lists
      pub joined-flat : (xs ys : List (K × List (L × J))) → IsNested P Q xs → IsNested P Q ys
          → flat (joined2 xs ys) ≡ joined_maps (pair_cmp P Q) joined (flat xs) (flat ys)
      joined-flat xs ys m n =
          let tr : IsTotalOrder (pair_cmp P Q) = pair_total tp tq in
          let both = nested_joined xs ys m n in
          let mx = IsMap-flat P Q tp xs m in
          let my = IsMap-flat P Q tp ys n in
          same_maps (pair_cmp P Q) tr (pairs_exact P Q ep eq) (flat (joined2 xs ys))
          (joined_maps (pair_cmp P Q) joined (flat xs) (flat ys))
          (IsMap-flat P Q tp (joined2 xs ys) both)
          (joined_maps-IsMap (pair_cmp P Q) tr joined (flat xs) (flat ys) mx my)
          (λ q. find-flat P Q tp (joined2 xs ys) both.outer q
          ∙ ap (found_in Q q.1)
          (find-joined_maps P tp (joined_maps Q joined) xs ys m.outer n.outer q.0)
          ∙ found_joined q.1 (find P q.0 xs) (find P q.0 ys)
          (λ us e. let i = found_inner P Q tp xs m q.0 us e in i.map)
          (λ ws f. let j = found_inner P Q tp ys n q.0 ws f in j.map)
          ∙ (λ i. joined_if_both joined (sym (find-flat P Q tp xs m.outer q) i)
          (sym (find-flat P Q tp ys n.outer q) i))
          ∙ sym (find-joined_maps (pair_cmp P Q) tr joined (flat xs) (flat ys) mx my q))

      -- maps of maps agree where their flat lists do
      pub agree_of_flat : (xs ys : List (K × List (L × J))) → IsNested P Q xs → IsNested P Q ys
          → AgreeMaps (pair_cmp P Q) agree (flat xs) (flat ys)
          → AgreeMaps P (AgreeMaps Q agree) xs ys
      agree_of_flat xs ys m n h =
          inr (record {
            first = m.outer;
            second = n.outer;
            at =
                λ k. at k (find P k xs) (find P k ys) refl refl;
          })
        where
          find_both : (k : K) (l : L)
              → AgreeIfBoth agree (found_in Q l (find P k xs)) (found_in Q l (find P k ys))
          find_both k l =
              subst (λ o. AgreeIfBoth agree o (found_in Q l (find P k ys)))
              (find-flat P Q tp xs m.outer (k, l))
              (subst (AgreeIfBoth agree (find (pair_cmp P Q) (k, l) (flat xs)))
              (find-flat P Q tp ys n.outer (k, l))
              (at_of (pair_cmp P Q) (pair_total tp tq) (pairs_exact P Q ep eq) laws (flat xs)
              (flat ys) h (k, l)))

          at : (k : K) (a b : Option (List (L × J))) → find P k xs ≡ a → find P k ys ≡ b
              → AgreeIfBoth (AgreeMaps Q agree) a b
          at k None b e f = tt
          at k (Some us) None e f = tt
          at k (Some us) (Some ws) e f =
              let i = found_inner P Q tp xs m k us e in
              let j = found_inner P Q tp ys n k ws f in
              inr (record {
                first = i.map;
                second = j.map;
                at = λ l. subst (λ o. AgreeIfBoth agree (found_in Q l o) (find Q l ws)) e
                    (subst (λ o. AgreeIfBoth agree (found_in Q l (find P k xs)) (found_in Q l o)) f
                    (find_both k l));
              })

      -- where maps of maps agree, so do their flat lists
      pub agree_to_flat : (xs ys : List (K × List (L × J))) → IsNested P Q xs → IsNested P Q ys
          → AgreeMaps P (AgreeMaps Q agree) xs ys
          → AgreeMaps (pair_cmp P Q) agree (flat xs) (flat ys)
      agree_to_flat xs ys m n h =
          elim h as (λ _. AgreeMaps (pair_cmp P Q) agree (flat xs) (flat ys)) [
            | inl e ↦ inl (ap flat e)
            | inr r ↦ inr (record {
              first = IsMap-flat P Q tp xs m;
              second = IsMap-flat P Q tp ys n;
              at = λ q.
                  subst (λ o. AgreeIfBoth agree o (find (pair_cmp P Q) q (flat ys)))
                  (sym (find-flat P Q tp xs m.outer q))
                  (subst (AgreeIfBoth agree (found_in Q q.1 (find P q.0 xs)))
                  (sym (find-flat P Q tp ys n.outer q))
                  (inner_agree q.1 (find P q.0 xs) (find P q.0 ys) (r.at q.0)));
            })
          ]
        where
          inner_agree : (l : L) (a b : Option (List (L × J))) → AgreeIfBoth (AgreeMaps Q agree) a b
              → AgreeIfBoth agree (found_in Q l a) (found_in Q l b)
          inner_agree l None b g = tt
          inner_agree l (Some us) None g =
              elim (find Q l us) as (λ o. AgreeIfBoth agree o None) [ None ↦ tt | Some x ↦ tt ]
          inner_agree l (Some us) (Some ws) g = at_of Q tq eq laws us ws g l

      stays : (x b : Option J) → AgreeIfBoth agree x b → BetweenIfBoth between x x b
      stays x b h = let o = if_both_laws laws in o.between_first x b h

      -- what lies between maps of maps lies between their flat lists
      pub between-flat : (xs zs ys : List (K × List (L × J))) → IsNested P Q xs → IsNested P Q zs
          → IsNested P Q ys → AgreeMaps P (AgreeMaps Q agree) xs ys
          → BetweenMaps P (BetweenMaps Q between) xs zs ys
          → BetweenMaps (pair_cmp P Q) between (flat xs) (flat zs) (flat ys)
      between-flat xs zs ys m w n g h =
          elim h as (λ _. BetweenMaps (pair_cmp P Q) between (flat xs) (flat zs) (flat ys)) [
            | inl e ↦ inl (ap flat e)
            | inr r ↦ inr (record {
              first = IsMap-flat P Q tp xs m;
              middle = IsMap-flat P Q tp zs w;
              last = IsMap-flat P Q tp ys n;
              at = λ q.
                  subst (λ o. BetweenIfBoth between o (find (pair_cmp P Q) q (flat zs))
                  (find (pair_cmp P Q) q (flat ys))) (sym (find-flat P Q tp xs m.outer q))
                  (subst
                  (λ o. BetweenIfBoth between (found_in Q q.1 (find P q.0 xs)) o
                  (find (pair_cmp P Q) q (flat ys))) (sym (find-flat P Q tp zs w.outer q))
                  (subst
                  (λ o. BetweenIfBoth between (found_in Q q.1 (find P q.0 xs))
                  (found_in Q q.1 (find P q.0 zs)) o) (sym (find-flat P Q tp ys n.outer q))
                  (inner_between q.1 (find P q.0 xs) (find P q.0 zs) (find P q.0 ys)
                  (at_of P tp ep (map_laws Q tq eq laws) xs ys g q.0) (r.at q.0))));
            })
          ]
        where
          inner_between : (l : L) (a x b : Option (List (L × J)))
              → AgreeIfBoth (AgreeMaps Q agree) a b → BetweenIfBoth (BetweenMaps Q between) a x b
              → BetweenIfBoth between (found_in Q l a) (found_in Q l x) (found_in Q l b)
          inner_between l None None b g k = tt
          inner_between l None (Some x) b g k =
              subst (λ o. BetweenIfBoth between None (find Q l x) (found_in Q l o)) (sym k)
              (new_is (find Q l x))
            where
              new_is : (o : Option J) → BetweenIfBoth between None o o
              new_is None = tt
              new_is (Some v) = refl
          inner_between l (Some a) None b g k =
              absurd
              (elim b as
              (λ b. BetweenIfBoth (BetweenMaps Q between) (Some a) None b → ⊥) [
                | None ↦
                    λ k. k
                | Some y ↦ λ k. k
              ] k)
          inner_between l (Some a) (Some x) None g k =
              subst (λ x. BetweenIfBoth between (find Q l a) (find Q l x) None) (sym k)
              (stays (find Q l a) None (none_agrees (find Q l a)))
            where
              none_agrees : (o : Option J) → AgreeIfBoth agree o None
              none_agrees None = tt
              none_agrees (Some v) = tt
          inner_between l (Some a) (Some x) (Some b) g k =
              elim k as (λ _. BetweenIfBoth between (find Q l a) (find Q l x) (find Q l b)) [
                | inl e ↦
                    subst (λ x. BetweenIfBoth between (find Q l a) (find Q l x) (find Q l b))
                    (sym e)
                    (stays (find Q l a) (find Q l b) (at_of Q tq eq laws a b g l))
                | inr r ↦ r.at l
              ]

module _ {K L J : Type 0} (P : K → K → Ordering) (Q : L → L → Ordering) (tp : IsTotalOrder P)
    (tq : IsTotalOrder Q) (between : J → J → J → Type 0) where
  none_lost : (v : J) (o : Option J) → BetweenIfBoth between (Some v) None o → ⊥
  none_lost v None h = h
  none_lost v (Some w) h = h

  -- a map between is not empty where the first is not
  between_some : (us vs ws : List (L × J)) → IsInner Q us → BetweenMaps Q between us vs ws
      → IsInner Q vs
  between_some us vs ws inner h = elim h as (λ _. IsInner Q vs) [
    | inl e ↦ subst (IsInner Q) (sym e) inner
    | inr r ↦ record { map = r.middle; some = kept us vs inner.some (λ l. r.at l) }
  ]
    where
      kept : (us vs : List (L × J)) → 0 < length us
          → ((l : L) → BetweenIfBoth between (find Q l us) (find Q l vs) (find Q l ws))
          → 0 < length vs
      kept us (v ∷ vs) some at = omega arith
      kept [] [] some at = absurd (omega (arith, some))
      kept (u ∷ us) [] some at =
          absurd
          (none_lost u.1 (find Q u.0 ws)
          (subst (λ o. BetweenIfBoth between o None (find Q u.0 ws))
          (ap (λ r. cond (is_eq r) (Some u.1) (find Q u.0 us)) (tied_itself tq u.0)) (at u.0)))

  -- what lies between maps of maps is one
  pub nested_between : (xs zs ys : List (K × List (L × J))) → IsNested P Q xs → IsNested P Q ys
      → BetweenMaps P (BetweenMaps Q between) xs zs ys → IsNested P Q zs
  nested_between xs zs ys m n h = elim h as (λ _. IsNested P Q zs) [
    | inl e ↦ subst (IsNested P Q) (sym e) m
    | inr r ↦
        nested_of_found P Q tp zs r.middle
        (λ k us is. at k us (find P k xs) (find P k ys) refl refl
        (subst (λ o. BetweenIfBoth (BetweenMaps Q between) (find P k xs) o (find P k ys)) is
        (r.at k)))
  ]
    where
      at : (k : K) (us : List (L × J)) (a b : Option (List (L × J))) → find P k xs ≡ a
          → find P k ys ≡ b → BetweenIfBoth (BetweenMaps Q between) a (Some us) b → IsInner Q us
      at k us None b e f g = found_inner P Q tp ys n k us (f ∙ g)
      at k us (Some vs) None e f g = found_inner P Q tp xs m k us (e ∙ ap Some (sym g))
      at k us (Some vs) (Some ws) e f g = between_some vs us ws (found_inner P Q tp xs m k vs e) g
