-- What is at the place of a key, and what an edit there does.
--
-- The place of a key is the number of entries with a lesser key. All before it are lesser, and all
-- from it on are not; so the key is in the map just if the entry at its place has it. To put is
-- then to set the value at the place, or to insert an entry there. The last part goes over the
-- entries one by one, for loops that compare two maps.
use Rattle.std.proofs.Common.{◌≡◌, ℕ, suc, ◌+◌, ◌<◌, ◌≤◌, true, false, cond, List, [], ◌∷◌, ◌++◌}
use Rattle.std.proofs.Common.{length, get_or, set, take, Some, None, zero, sym, ap, ◌∙◌, subst}
use Rattle.std.proofs.Common.{refl, arith, true≢false, inl, inr, ◌⊎◌}
use Rattle.std.specs.Prelude.{T}
use Rattle.std.specs.declared.cmp.Ordering.{Ordering}
use Rattle.std.specs.declared.cmp.Ordering.TheVariants.{Less, Equal, Greater}
use Rattle.std.specs.Ordering.{is_gt, is_eq, is_lt, eq_by_cmp, ordering_reverse}
use Rattle.std.specs.Cmp.{IsTotalOrder, tied_itself}
use Rattle.std.specs.List.{insert}
use Rattle.std.specs.FinMap.Entries.{find, put, is_sorted, below_all, by_order, find_tied}
use Rattle.std.specs.FinMap.Entries.{find-append}
use Rattle.std.proofs.lemmas.List.{take_more}
use Rattle.std.proofs.lemmas.List.Edits.{insert_end}
use Rattle.cell_core.specs.KeyedFound.{with_key}
use Rattle.cell_core.specs.Keyed.{IsMap, AgreeIfBoth}
use Rattle.cell_core.specs.inner.KeyedPlaces.{place_of, IsPlace, IsGap}
use Rattle.cell_core.proofs.Basics.{first_part, second_part, both_parts, less_than, some_not_none}
use Rattle.cell_core.proofs.Basics.{tied_order}

-- A key that is greater than another is not equal to it.
pub later_not_eq : {K : Type 0} {cmp : K → K → Ordering} → IsTotalOrder cmp → (x y : K)
    → cmp x y ≡ Less → is_eq (cmp y x) ≡ false
later_not_eq total x y p = ap is_eq (total.antisymm y x ∙ ap ordering_reverse p)

module _ {K J : Type 0} (cmp : K → K → Ordering) where
  -- the place of a key is at most the number of entries
  pub place_of-le : (key : K) (es : List (K × J)) → place_of cmp key es ≤ length es
  place_of-le key [] = omega arith
  place_of-le key (e ∷ es) =
      elim (is_gt (cmp key e.0)) as
      (λ t. cond t (suc (place_of cmp key es)) 0 ≤ suc (length es)) [
        | true ↦
            omega (arith, place_of-le key es)
        | false ↦ omega arith
      ]

  -- what is at the place of a key that is there
  pub find-place : (key : K) (es : List (K × J)) (d : K × J) → place_of cmp key es < length es
      → (let e = get_or es (place_of cmp key es) d in cmp key e.0 ≡ Equal)
      → (let e = get_or es (place_of cmp key es) d in find cmp key es ≡ Some e.1)
  find-place key [] d = λ lt e. absurd (omega (arith, lt))
  find-place key (e ∷ es) d =
      elim (cmp key e.0) as
      (λ r. cmp key e.0 ≡ r → cond (is_gt r) (suc (place_of cmp key es)) 0 < suc (length es)
      → (let f = get_or (e ∷ es) (cond (is_gt r) (suc (place_of cmp key es)) 0) d in
      cmp key f.0 ≡ Equal)
      → (let f = get_or (e ∷ es) (cond (is_gt r) (suc (place_of cmp key es)) 0) d in
      cond (is_eq r) (Some e.1) (find cmp key es) ≡ Some f.1)) [
        | Less ↦ λ p lt is. absurd (true≢false (ap is_eq (sym is ∙ p)))
        | Equal ↦ λ p lt is. refl
        | Greater ↦ λ p lt is. find-place key es d (omega (arith, lt)) is
      ] refl

  -- a value put at a key that is there
  pub put-place : (key : K) (v : J) (es : List (K × J)) (d : K × J)
      → place_of cmp key es < length es
      → (let e = get_or es (place_of cmp key es) d in cmp key e.0 ≡ Equal)
      → (let e = get_or es (place_of cmp key es) d in
      put cmp key v es ≡ set es (place_of cmp key es) (e.0, v))
  put-place key v [] d = λ lt e. absurd (omega (arith, lt))
  put-place key v (e ∷ es) d =
      elim (cmp key e.0) as
      (λ r. cmp key e.0 ≡ r → cond (is_gt r) (suc (place_of cmp key es)) 0 < suc (length es)
      → (let f = get_or (e ∷ es) (cond (is_gt r) (suc (place_of cmp key es)) 0) d in
      cmp key f.0 ≡ Equal)
      → (let f = get_or (e ∷ es) (cond (is_gt r) (suc (place_of cmp key es)) 0) d in
      by_order r ((key, v) ∷ e ∷ es) ((e.0, v) ∷ es) (e ∷ put cmp key v es)
      ≡ set (e ∷ es) (cond (is_gt r) (suc (place_of cmp key es)) 0) (f.0, v))) [
        | Less ↦ λ p lt is. absurd (true≢false (ap is_eq (sym is ∙ p)))
        | Equal ↦ λ p lt is. refl
        | Greater ↦ λ p lt is. ap (λ fs. e ∷ fs) (put-place key v es d (omega (arith, lt)) is)
      ] refl

  -- a value put at a key that is not there
  pub put-gap : (key : K) (v : J) (es : List (K × J)) → find cmp key es ≡ None
      → put cmp key v es ≡ insert es (place_of cmp key es) (key, v)
  put-gap key v [] = λ none. refl
  put-gap key v (e ∷ es) =
      elim (cmp key e.0) as (λ r. cond (is_eq r) (Some e.1) (find cmp key es) ≡ None
      → by_order r ((key, v) ∷ e ∷ es) ((e.0, v) ∷ es) (e ∷ put cmp key v es)
      ≡ insert (e ∷ es) (cond (is_gt r) (suc (place_of cmp key es)) 0) (key, v)) [
        | Less ↦ λ none. refl
        | Equal ↦ λ none. absurd (some_not_none e.1 none)
        | Greater ↦ λ none. ap (λ fs. e ∷ fs) (put-gap key v es none)
      ]

  -- a key below all is not there
  pub find-below : (q : K) (es : List (K × J)) → T (below_all cmp q es) → find cmp q es ≡ None
  find-below q [] h = refl
  find-below q (e ∷ es) h =
      ap (λ r. cond (is_eq r) (Some e.1) (find cmp q es))
      (less_than (cmp q e.0) (first_part (is_lt (cmp q e.0)) (below_all cmp q es) h))
      ∙ find-below q es (second_part (is_lt (cmp q e.0)) (below_all cmp q es) h)

  -- a key below all is below the one at each place
  pub below-at : (q : K) (es : List (K × J)) (i : ℕ) (d : K × J) → T (below_all cmp q es)
      → i < length es → (let e = get_or es i d in cmp q e.0 ≡ Less)
  below-at q [] i d h lt = absurd (omega (arith, lt))
  below-at q (e ∷ es) zero d h lt =
      less_than (cmp q e.0) (first_part (is_lt (cmp q e.0)) (below_all cmp q es) h)
  below-at q (e ∷ es) (suc i) d h lt =
      below-at q es i d (second_part (is_lt (cmp q e.0)) (below_all cmp q es) h) (omega (arith, lt))

  -- what a front of the entries has at a key is nothing, or what all have
  pub find-take : (q : K) (i : ℕ) (es : List (K × J))
      → (find cmp q (take i es) ≡ None) ⊎ (find cmp q (take i es) ≡ find cmp q es)
  find-take q zero es = inl refl
  find-take q (suc i) [] = inl refl
  find-take q (suc i) (e ∷ es) =
      elim (eq_by_cmp cmp q e.0) as
      (λ t. (cond t (Some e.1) (find cmp q (take i es)) ≡ None)
      ⊎ (cond t (Some e.1) (find cmp q (take i es)) ≡ cond t (Some e.1) (find cmp q es))) [
        | true ↦ inr refl
        | false ↦ find-take q i es
      ]

  module _ (total : IsTotalOrder cmp) where
    -- what is below a key that is below all is below all
    pub below-trans : (x y : K) (es : List (K × J)) → cmp x y ≡ Less → T (below_all cmp y es)
        → T (below_all cmp x es)
    below-trans x y [] p h = tt
    below-trans x y (e ∷ es) p h =
        both_parts (is_lt (cmp x e.0)) (below_all cmp x es)
        (subst (λ r. T (is_lt r))
        (sym (total.trans x y e.0 p
        (less_than (cmp y e.0) (first_part (is_lt (cmp y e.0)) (below_all cmp y es) h)))) tt)
        (below-trans x y es p (second_part (is_lt (cmp y e.0)) (below_all cmp y es) h))

    -- what ties with a key that is below all is below all
    pub below_tied : (x y : K) (es : List (K × J)) → cmp x y ≡ Equal → T (below_all cmp y es)
        → T (below_all cmp x es)
    below_tied x y [] p h = tt
    below_tied x y (e ∷ es) p h =
        both_parts (is_lt (cmp x e.0)) (below_all cmp x es)
        (subst (λ r. T (is_lt r)) (sym (total.congr x y e.0 p))
        (first_part (is_lt (cmp y e.0)) (below_all cmp y es) h))
        (below_tied x y es p (second_part (is_lt (cmp y e.0)) (below_all cmp y es) h))

    -- a key that is not at its place is not there
    pub find-gap : (key : K) (es : List (K × J)) → IsMap cmp es
        → ((d : K × J) → place_of cmp key es < length es
        → (let e = get_or es (place_of cmp key es) d in is_eq (cmp key e.0) ≡ false))
        → find cmp key es ≡ None
    find-gap key [] sorted = λ apart. refl
    find-gap key (e ∷ es) sorted =
        elim (cmp key e.0) as (λ r. cmp key e.0 ≡ r
        → ((d : K × J) → cond (is_gt r) (suc (place_of cmp key es)) 0 < suc (length es)
        → (let f = get_or (e ∷ es) (cond (is_gt r) (suc (place_of cmp key es)) 0) d in
        is_eq (cmp key f.0) ≡ false))
        → cond (is_eq r) (Some e.1) (find cmp key es) ≡ None) [
          | Less ↦
              λ p apart.
              find-below key es
              (below-trans key e.0 es p
              (first_part (below_all cmp e.0 es) (is_sorted cmp es) sorted))
          | Equal ↦ λ p apart. absurd (true≢false (sym (ap is_eq p) ∙ apart e (omega arith)))
          | Greater ↦
              λ p apart.
              find-gap key es (second_part (below_all cmp e.0 es) (is_sorted cmp es) sorted)
              (λ d lt. apart d (omega (arith, lt)))
        ] refl

    -- the key at a place is not before it
    pub find-before : (es : List (K × J)) (i : ℕ) (d : K × J) → IsMap cmp es → i < length es
        → (let e = get_or es i d in find cmp e.0 (take i es) ≡ None)
    find-before [] i d sorted lt = absurd (omega (arith, lt))
    find-before (e ∷ es) zero d sorted lt = refl
    find-before (e ∷ es) (suc i) d sorted lt =
        let f = get_or es i d in
        let rest : i < length es = omega (arith, lt) in
        ap (λ t. cond t (Some e.1) (find cmp f.0 (take i es)))
        (later_not_eq total e.0 f.0
        (below-at e.0 es i d (first_part (below_all cmp e.0 es) (is_sorted cmp es) sorted)
        rest))
        ∙ find-before es i d (second_part (below_all cmp e.0 es) (is_sorted cmp es) sorted) rest

    -- and has the value at that place
    pub find-at : (es : List (K × J)) (i : ℕ) (d : K × J) → IsMap cmp es → i < length es
        → (let e = get_or es i d in find cmp e.0 es ≡ Some e.1)
    find-at [] i d sorted lt = absurd (omega (arith, lt))
    find-at (e ∷ es) zero d sorted lt =
        ap (λ r. cond (is_eq r) (Some e.1) (find cmp e.0 es)) (tied_itself total e.0)
    find-at (e ∷ es) (suc i) d sorted lt =
        let f = get_or es i d in
        let rest : i < length es = omega (arith, lt) in
        ap (λ t. cond t (Some e.1) (find cmp f.0 es))
        (later_not_eq total e.0 f.0
        (below-at e.0 es i d (first_part (below_all cmp e.0 es) (is_sorted cmp es) sorted)
        rest))
        ∙ find-at es i d (second_part (below_all cmp e.0 es) (is_sorted cmp es) sorted) rest

module _ {K J : Type 0} {cmp : K → K → Ordering} where
  -- at the place of a key is what a search finds
  pub find_at_place : (key : K) (es : List (K × J)) (at : ℕ) (d : K × J) → IsPlace cmp key es at
      → (let e = get_or es at d in find cmp key es ≡ Some e.1)
  find_at_place key es at d p =
      subst (λ n. let e = get_or es n d in find cmp key es ≡ Some e.1) (sym p.is)
      (find-place cmp key es d (subst (λ n. n < length es) p.is p.in_range)
      (subst (λ n. let e = get_or es n d in cmp key e.0 ≡ Equal) p.is (p.tied d)))

  -- the entry there is the key with what a search finds
  pub entry_at_place : ((x y : K) → cmp x y ≡ Equal → x ≡ y)
      → (key : K) (es : List (K × J)) (at : ℕ) (d : K × J) → IsPlace cmp key es at
      → (let e = get_or es at d in with_key e.0 (Some e.1) ≡ with_key key (find cmp key es))
  entry_at_place exact key es at d p =
      let e = get_or es at d in
      ap (λ k. with_key k (Some e.1)) (sym (exact key e.0 (p.tied d)))
      ∙ ap (with_key key) (sym (find_at_place key es at d p))

  -- to put at a key that is there sets the value at its place
  pub put_at_place : (key : K) (v : J) (es : List (K × J)) (at : ℕ) (d : K × J)
      → IsPlace cmp key es at → (let e = get_or es at d in put cmp key v es ≡ set es at (e.0, v))
  put_at_place key v es at d p =
      subst (λ n. let e = get_or es n d in put cmp key v es ≡ set es n (e.0, v)) (sym p.is)
      (put-place cmp key v es d (subst (λ n. n < length es) p.is p.in_range)
      (subst (λ n. let e = get_or es n d in cmp key e.0 ≡ Equal) p.is (p.tied d)))

  -- to put at a key that is not there inserts an entry at its place
  pub put_at_gap : (key : K) (v : J) (es : List (K × J)) (at : ℕ) → IsGap cmp key es at
      → put cmp key v es ≡ insert es at (key, v)
  put_at_gap key v es at gap =
      put-gap cmp key v es gap.absent ∙ ap (λ n. insert es n (key, v)) (sym gap.is)

  -- where the key's place has another key, or none, the key is not there
  pub gap_at : IsTotalOrder cmp → (key : K) (es : List (K × J)) (at : ℕ) → at ≡ place_of cmp key es
      → IsMap cmp es
      → ((d : K × J) → at < length es → (let e = get_or es at d in is_eq (cmp key e.0) ≡ false))
      → IsGap cmp key es at
  gap_at total key es at is sorted apart = record {
    is = is;
    in_range = subst (λ n. n ≤ length es) (sym is) (place_of-le cmp key es);
    absent =
        find-gap cmp total key es sorted
        (subst
        (λ n. (d : K × J) → n < length es → (let e = get_or es n d in is_eq (cmp key e.0) ≡ false))
        is apart);
  }

-- Writing a value to the entry at the place of a key puts it into the map.
pub set_as_put : {K J : Type 0} {cmp : K → K → Ordering} (key : K) (v : J) (es items : List (K × J))
    (at : ℕ) (e : K × J) → IsPlace cmp key es at → items ≡ es → e ≡ get_or items at e
    → set items at (e.0, v) ≡ put cmp key v es
set_as_put {cmp = cmp} key v es items at e p same is =
    ap (λ xs. set xs at (e.0, v)) same
    ∙ ap (λ f. set es at (f.0, v)) (is ∙ ap (λ xs. get_or xs at e) same)
    ∙ sym (put_at_place key v es at e p)

-- A map has at a key the value of the entry that is read at its place.
pub find_read : {K J : Type 0} {cmp : K → K → Ordering} (key : K) (es items : List (K × J)) (at : ℕ)
    (e : K × J) → IsPlace cmp key es at → items ≡ es → e ≡ get_or items at e
    → find cmp key es ≡ Some e.1
find_read {K} {J} key es items at e p same is =
    find_at_place key es at e p
    ∙ ap (λ (f : K × J). Some f.1) (sym (is ∙ ap (λ xs. get_or xs at e) same))

-- Inserting an entry at the gap of its key puts it into the map.
pub insert_as_put : {K J : Type 0} {cmp : K → K → Ordering} (key : K) (v : J)
    (es items : List (K × J)) (at : ℕ) → IsGap cmp key es at → items ≡ es
    → insert items at (key, v) ≡ put cmp key v es
insert_as_put key v es items at gap same =
    ap (λ xs. insert xs at (key, v)) same ∙ sym (put_at_gap key v es at gap)

-- Adding an entry after all, where the gap of its key is, puts it into the map.
pub push_as_put : {K J : Type 0} {cmp : K → K → Ordering} (key : K) (v : J)
    (es items : List (K × J)) → IsGap cmp key es (length es) → items ≡ es
    → items ++ (key, v) ∷ [] ≡ put cmp key v es
push_as_put key v es items gap same =
    ap (λ xs. xs ++ (key, v) ∷ []) same ∙ sym (insert_end es (key, v))
    ∙ sym (put_at_gap key v es (length es) gap)

-- ---- going over the entries one by one

-- what a front of the entries, and one more, have at a key
pub find-take_more : {K J : Type 0} (cmp : K → K → Ordering) → IsTotalOrder cmp
    → (es : List (K × J)) (i : ℕ) (k : K) (v : J) → IsMap cmp es → i < length es
    → (k, v) ≡ get_or es i (k, v)
    → (q : K)
    → find cmp q (take (i + 1) es) ≡ cond (eq_by_cmp cmp q k) (Some v) (find cmp q (take i es))
find-take_more {K} {J} cmp total es i k v map lt is q =
    ap (find cmp q) (take_more es i (k, v) lt ∙ ap (λ (e : K × J). take i es ++ e ∷ []) (sym is))
    ∙ find-append cmp total (take i es) k v q
    (ap (λ (e : K × J). find cmp e.0 (take i es)) is ∙ find-before cmp total es i (k, v) map lt)

-- what a map has at the key of an entry of it
pub find_entry : {K J : Type 0} (cmp : K → K → Ordering) → IsTotalOrder cmp
    → (es : List (K × J)) (i : ℕ) (k : K) (v : J) → IsMap cmp es → i < length es
    → (k, v) ≡ get_or es i (k, v) → find cmp k es ≡ Some v
find_entry {K} {J} cmp total es i k v map lt is =
    ap (λ (e : K × J). find cmp e.0 es) is ∙ find-at cmp total es i (k, v) map lt
    ∙ ap (λ (e : K × J). Some e.1) (sym is)

-- maps agree at the entries so far, and one more
pub agree_one_more : {K J : Type 0} {cmp : K → K → Ordering} → IsTotalOrder cmp
    → (agree : J → J → Type 0) (es other : List (K × J)) (i : ℕ) (k : K) (v : J) → IsMap cmp es
    → i < length es → (k, v) ≡ get_or es i (k, v)
    → AgreeIfBoth agree (Some v) (find cmp k other)
    → ((q : K) → AgreeIfBoth agree (find cmp q (take i es)) (find cmp q other)) → (q : K)
    → AgreeIfBoth agree (find cmp q (take (i + 1) es)) (find cmp q other)
agree_one_more {cmp = cmp} total agree es other i k v map lt is here before q =
    subst (λ o. AgreeIfBoth agree o (find cmp q other))
    (sym (find-take_more cmp total es i k v map lt is q))
    (elim (eq_by_cmp cmp q k) as
    (λ t. eq_by_cmp cmp q k ≡ t
    → AgreeIfBoth agree (cond t (Some v) (find cmp q (take i es))) (find cmp q other)) [
      | true ↦
          λ t. subst (AgreeIfBoth agree (Some v))
          (find_tied cmp total q k (tied_order (cmp q k) t) other) here
      | false ↦ λ t. before q
    ] refl)

-- References of one name that give back the same are the same.
pub lent_as : {N J L : Type 0} {name : N} {f h : J → L} → ((w : J) → f w ≡ h w)
    → ◌≡◌ {A = (N × (J → L)) ⊎ L} (inl (name, f)) (inl (name, h))
lent_as {name = name} e = λ i. inl (name, λ w. e w i)
