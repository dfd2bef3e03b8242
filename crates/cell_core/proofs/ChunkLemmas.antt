-- Maps in chunks.
--
-- The entries of a map are those of its chunks in order, and no chunk is empty. So the chunk of a
-- key is the last whose first key is not above it: all entries before that chunk are below the key,
-- and all after it above, and a search of all entries finds what a search of this chunk finds. A
-- chunk that is cut in two, or into which an entry is put, leaves the entries before and after it
-- as they are.
use Rattle.std.proofs.Common.{◌≡◌, ℕ, suc, zero, ◌<◌, true, false, cond, List, [], ◌∷◌, ◌++◌}
use Rattle.std.proofs.Common.{length, get_or, set, take, drop, Some, sym, ap, ◌∙◌, subst, refl}
use Rattle.std.proofs.Common.{arith, true≢false, append_assoc}
use Rattle.std.specs.Prelude.{T}
use Rattle.std.specs.declared.cmp.Ordering.{Ordering}
use Rattle.std.specs.declared.cmp.Ordering.TheVariants.{Less, Equal, Greater}
use Rattle.std.specs.Ordering.{is_gt, is_eq, is_lt, eq_by_cmp}
use Rattle.std.specs.Cmp.{IsTotalOrder}
use Rattle.std.specs.List.{insert}
use Rattle.std.specs.declared.vec.Vec.{Vec}
use Rattle.std.specs.FinMap.Entries.{find, put, by_order, is_sorted-put, is_sorted, below_all}
use Rattle.cell_core.specs.Keyed.{IsMap}
use Rattle.cell_core.specs.inner.KeyedPlaces.{place_of}
use Rattle.cell_core.specs.Chunks.{all_of, AllFilled, IsChunked}
use Rattle.cell_core.specs.inner.Chunks.{IsChunkFor}
use Rattle.cell_core.proofs.Basics.{first_part, second_part, both_parts, less_than}
use Rattle.cell_core.proofs.KeyedPlacesLemmas.{below-trans, find-below}
use Rattle.cell_core.proofs.KeyedWalkLemmas.{above_above, above}

module _ {X Z : Type 0} where
  -- the entries are those in front of a chunk, its own, and those after it
  pub all_of-split : (cs : List (Vec X Z)) (i : ℕ) (d : Vec X Z) → i < length cs
      → (let c = get_or cs i d in
      all_of cs ≡ all_of (take i cs) ++ (c.items ++ all_of (drop (suc i) cs)))
  all_of-split [] i d lt = absurd (omega (arith, lt))
  all_of-split (c ∷ cs) zero d lt = refl
  all_of-split (c ∷ cs) (suc i) d lt =
      let e = get_or cs i d in
      ap (λ xs. c.items ++ xs) (all_of-split cs i d (omega (arith, lt)))
      ∙ sym (append_assoc c.items (all_of (take i cs)) (e.items ++ all_of (drop (suc i) cs)))

  -- the entries from a chunk on are its own and those after it
  pub all_of-drop : (cs : List (Vec X Z)) (i : ℕ) (d : Vec X Z) → i < length cs
      → (let c = get_or cs i d in all_of (drop i cs) ≡ c.items ++ all_of (drop (suc i) cs))
  all_of-drop [] i d lt = absurd (omega (arith, lt))
  all_of-drop (c ∷ cs) zero d lt = refl
  all_of-drop (c ∷ cs) (suc i) d lt = all_of-drop cs i d (omega (arith, lt))

  -- a chunk at a place is not empty
  pub filled_at : (cs : List (Vec X Z)) (i : ℕ) (d : Vec X Z) → AllFilled cs → i < length cs
      → (let c = get_or cs i d in 0 < length c.items)
  filled_at [] i d filled lt = absurd (omega (arith, lt))
  filled_at (c ∷ cs) zero d filled lt = filled.0
  filled_at (c ∷ cs) (suc i) d filled lt = filled_at cs i d filled.1 (omega (arith, lt))

module _ {K : Type 0} (cmp : K → K → Ordering) (total : IsTotalOrder cmp) where
  at_least : (q x y : K) → is_lt (cmp q y) ≡ false → cmp x y ≡ Less → cmp q x ≡ Greater
  at_least q x y =
      elim (cmp q y) as (λ r. cmp q y ≡ r → is_lt r ≡ false → cmp x y ≡ Less → cmp q x ≡ Greater) [
        | Less ↦ λ p e less. absurd (true≢false e)
        | Equal ↦ λ p e less. total.congr q y x p ∙ above cmp total x y less
        | Greater ↦ λ p e less. above_above cmp total q y x p less
      ] refl

module _ {K J : Type 0} (cmp : K → K → Ordering) where
  below_front : (q : K) (xs ys : List (K × J)) → T (below_all cmp q (xs ++ ys))
      → T (below_all cmp q xs)
  below_front q [] ys h = tt
  below_front q (x ∷ xs) ys h =
      both_parts (is_lt (cmp q x.0)) (below_all cmp q xs)
      (first_part (is_lt (cmp q x.0)) (below_all cmp q (xs ++ ys)) h)
      (below_front q xs ys (second_part (is_lt (cmp q x.0)) (below_all cmp q (xs ++ ys)) h))

  -- the front of a map is a map
  pub map_front : (xs ys : List (K × J)) → IsMap cmp (xs ++ ys) → IsMap cmp xs
  map_front [] ys h = tt
  map_front (x ∷ xs) ys h =
      both_parts (below_all cmp x.0 xs) (is_sorted cmp xs)
      (below_front x.0 xs ys
      (first_part (below_all cmp x.0 (xs ++ ys)) (is_sorted cmp (xs ++ ys)) h))
      (map_front xs ys
      (second_part (below_all cmp x.0 (xs ++ ys)) (is_sorted cmp (xs ++ ys)) h))

  -- the rest of a map is a map
  pub map_back : (xs ys : List (K × J)) → IsMap cmp (xs ++ ys) → IsMap cmp ys
  map_back [] ys h = h
  map_back (x ∷ xs) ys h =
      map_back xs ys (second_part (below_all cmp x.0 (xs ++ ys)) (is_sorted cmp (xs ++ ys)) h)

  below_in : (q : K) (xs : List (K × J)) (e : K × J) (ys : List (K × J))
      → T (below_all cmp q (xs ++ e ∷ ys)) → cmp q e.0 ≡ Less
  below_in q [] e ys h =
      less_than (cmp q e.0) (first_part (is_lt (cmp q e.0)) (below_all cmp q ys) h)
  below_in q (x ∷ xs) e ys h =
      below_in q xs e ys (second_part (is_lt (cmp q x.0)) (below_all cmp q (xs ++ e ∷ ys)) h)

  -- a key above all of a front is not in it
  pub find-front : (q : K) (xs ys : List (K × J)) → place_of cmp q xs ≡ length xs
      → find cmp q (xs ++ ys) ≡ find cmp q ys
  find-front q [] ys = λ all. refl
  find-front q (x ∷ xs) ys =
      elim (cmp q x.0) as
      (λ r. cond (is_gt r) (suc (place_of cmp q xs)) 0 ≡ suc (length xs)
      → cond (is_eq r) (Some x.1) (find cmp q (xs ++ ys)) ≡ find cmp q ys) [
        | Less ↦ λ all. absurd (omega (arith, all))
        | Equal ↦ λ all. absurd (omega (arith, all))
        | Greater ↦ λ all. find-front q xs ys (omega (arith, all))
      ]

  -- nor one below all of a back
  pub find-back : (q : K) (xs ys : List (K × J)) → T (below_all cmp q ys)
      → find cmp q (xs ++ ys) ≡ find cmp q xs
  find-back q [] ys h = find-below cmp q ys h
  find-back q (x ∷ xs) ys h = ap (cond (eq_by_cmp cmp q x.0) (Some x.1)) (find-back q xs ys h)

  module _ (total : IsTotalOrder cmp) where
    -- a key that is not below an entry is above all before it
    pub front_lesser : (q : K) (xs : List (K × J)) (e : K × J) (ys : List (K × J))
        → IsMap cmp (xs ++ e ∷ ys) → is_lt (cmp q e.0) ≡ false → place_of cmp q xs ≡ length xs
    front_lesser q [] e ys map p = refl
    front_lesser q (x ∷ xs) e ys map p =
        let less =
        below_in x.0 xs e ys
        (first_part (below_all cmp x.0 (xs ++ e ∷ ys)) (is_sorted cmp (xs ++ e ∷ ys)) map) in
        let t : is_gt (cmp q x.0) ≡ true = ap is_gt (at_least cmp total q x.0 e.0 p less) in
        rw t (ap suc
        (front_lesser q xs e ys
        (second_part (below_all cmp x.0 (xs ++ e ∷ ys)) (is_sorted cmp (xs ++ e ∷ ys)) map) p))

    -- a key below an entry is below all after it
    pub back_greater : (q : K) (e : K × J) (ys : List (K × J)) → IsMap cmp (e ∷ ys)
        → is_lt (cmp q e.0) ≡ true → T (below_all cmp q (e ∷ ys))
    back_greater q e ys map p =
        let t : T (is_lt (cmp q e.0)) = subst T (sym p) tt in
        both_parts (is_lt (cmp q e.0)) (below_all cmp q ys) t
        (below-trans cmp total q e.0 ys (less_than (cmp q e.0) t)
        (first_part (below_all cmp e.0 ys) (is_sorted cmp ys) map))

    -- the same of the first entry of a filled list
    pub front_of : (q : K) (xs ms ys : List (K × J)) (d : K × J) → 0 < length ms
        → IsMap cmp (xs ++ (ms ++ ys)) → (let e = get_or ms 0 d in is_lt (cmp q e.0) ≡ false)
        → place_of cmp q xs ≡ length xs
    front_of q xs [] ys d some map p = absurd (omega (arith, some))
    front_of q xs (m ∷ ms) ys d some map p = front_lesser q xs m (ms ++ ys) map p

    -- a key below the first of a map's rest is below all of that rest
    pub back_of : (q : K) (ms ys : List (K × J)) (d : K × J) → 0 < length ms → IsMap cmp (ms ++ ys)
        → (let e = get_or ms 0 d in is_lt (cmp q e.0) ≡ true) → T (below_all cmp q (ms ++ ys))
    back_of q [] ys d some map p = absurd (omega (arith, some))
    back_of q (m ∷ ms) ys d some map p = back_greater q m (ms ++ ys) map p

    module _ {Z : Type 0} (cs : List (Vec (K × J) Z)) (h : IsChunked cmp cs) where
      -- the entries of one chunk are a map
      pub chunk_map : (i : ℕ) (d : Vec (K × J) Z) → i < length cs
          → (let c = get_or cs i d in IsMap cmp c.items)
      chunk_map i d lt =
          let c = get_or cs i d in
          map_front c.items (all_of (drop (suc i) cs))
          (map_back (all_of (take i cs)) (c.items ++ all_of (drop (suc i) cs))
          (subst (IsMap cmp) (all_of-split cs i d lt) h.map))

      -- a key that is not below the first of a chunk has its place after the chunks in front
      pub chunk_front : (q : K) (i : ℕ) (d : Vec (K × J) Z) (e : K × J) → i < length cs
          → (let c = get_or cs i d in let f = get_or c.items 0 e in is_lt (cmp q f.0) ≡ false)
          → place_of cmp q (all_of (take i cs)) ≡ length (all_of (take i cs))
      chunk_front q i d e lt p =
          let c = get_or cs i d in
          front_of q (all_of (take i cs)) c.items (all_of (drop (suc i) cs)) e
          (filled_at cs i d h.filled lt) (subst (IsMap cmp) (all_of-split cs i d lt) h.map) p

      -- a key below the first of a chunk is below all entries from that chunk on
      pub chunk_back : (q : K) (i : ℕ) (d : Vec (K × J) Z) (e : K × J) → i < length cs
          → (let c = get_or cs i d in let f = get_or c.items 0 e in is_lt (cmp q f.0) ≡ true)
          → T (below_all cmp q (all_of (drop i cs)))
      chunk_back q i d e lt p =
          let c = get_or cs i d in
          subst (λ xs. T (below_all cmp q xs)) (sym (all_of-drop cs i d lt))
          (back_of q c.items (all_of (drop (suc i) cs)) e (filled_at cs i d h.filled lt)
          (map_back (all_of (take i cs)) (c.items ++ all_of (drop (suc i) cs))
          (subst (IsMap cmp) (all_of-split cs i d lt) h.map)) p)

      -- `chunk_front`, of a chunk and an entry that were read
      pub front_read : (q : K) (i : ℕ) (c : Vec (K × J) Z) (e : K × J) → i < length cs
          → c ≡ get_or cs i c → e ≡ get_or c.items 0 e → is_lt (cmp q e.0) ≡ false
          → place_of cmp q (all_of (take i cs)) ≡ length (all_of (take i cs))
      front_read q i c e lt is first p =
          chunk_front q i c e lt
          (ap (λ (f : K × J). is_lt (cmp q f.0))
          (sym (first ∙ ap (λ (x : Vec (K × J) Z). get_or x.items 0 e) is)) ∙ p)

      -- `chunk_back`, of a chunk and an entry that were read
      pub back_read : (q : K) (i : ℕ) (c : Vec (K × J) Z) (e : K × J) → i < length cs
          → c ≡ get_or cs i c → e ≡ get_or c.items 0 e → is_lt (cmp q e.0) ≡ true
          → T (below_all cmp q (all_of (drop i cs)))
      back_read q i c e lt is first p =
          chunk_back q i c e lt
          (ap (λ (f : K × J). is_lt (cmp q f.0))
          (sym (first ∙ ap (λ (x : Vec (K × J) Z). get_or x.items 0 e) is)) ∙ p)

      -- a search of all chunks finds what a search of the key's chunk finds
      pub find-chunk : (q : K) (i : ℕ) (d : Vec (K × J) Z) → IsChunkFor cmp q cs i
          → (let c = get_or cs i d in find cmp q (all_of cs) ≡ find cmp q c.items)
      find-chunk q i d p =
          let c = get_or cs i d in
          ap (find cmp q) (all_of-split cs i d p.in_range)
          ∙ find-front q (all_of (take i cs)) (c.items ++ all_of (drop (suc i) cs)) p.front
          ∙ find-back q c.items (all_of (drop (suc i) cs)) p.back

-- cutting a chunk leaves all entries
module _ {X Z : Type 0} where
  -- a chunk cut in two has the same entries
  pub all_of-cut : (cs : List (Vec X Z)) (i : ℕ) (d x y : Vec X Z) → i < length cs
      → (let c = get_or cs i d in x.items ++ y.items ≡ c.items)
      → all_of (insert (set cs i x) (suc i) y) ≡ all_of cs
  all_of-cut [] i d x y = λ lt e. absurd (omega (arith, lt))
  all_of-cut (c ∷ cs) zero d x y =
      λ lt e. sym (append_assoc x.items y.items (all_of cs)) ∙ ap (λ zs. zs ++ all_of cs) e
  all_of-cut (c ∷ cs) (suc i) d x y =
      λ lt e. ap (λ zs. c.items ++ zs) (all_of-cut cs i d x y (omega (arith, lt)) e)

  -- where both parts of a chunk that is cut have entries, still none is empty
  pub filled-cut : (cs : List (Vec X Z)) (i : ℕ) (x y : Vec X Z) → i < length cs
      → 0 < length x.items → 0 < length y.items → AllFilled cs
      → AllFilled (insert (set cs i x) (suc i) y)
  filled-cut [] i x y lt p q h = absurd (omega (arith, lt))
  filled-cut (c ∷ cs) zero x y lt p q h = (p, (q, h.1))
  filled-cut (c ∷ cs) (suc i) x y lt p q h = (h.0, filled-cut cs i x y (omega (arith, lt)) p q h.1)

  -- with another chunk at a place the entries before and after it are the same
  pub all_of-set : (cs : List (Vec X Z)) (i : ℕ) (x : Vec X Z) → i < length cs
      → all_of (set cs i x) ≡ all_of (take i cs) ++ (x.items ++ all_of (drop (suc i) cs))
  all_of-set [] i x lt = absurd (omega (arith, lt))
  all_of-set (c ∷ cs) zero x lt = refl
  all_of-set (c ∷ cs) (suc i) x lt =
      ap (λ zs. c.items ++ zs) (all_of-set cs i x (omega (arith, lt)))
      ∙ sym (append_assoc c.items (all_of (take i cs)) (x.items ++ all_of (drop (suc i) cs)))

  -- with another chunk at a place, not empty, still none is empty
  pub filled-set : (cs : List (Vec X Z)) (i : ℕ) (x : Vec X Z) → 0 < length x.items → AllFilled cs
      → AllFilled (set cs i x)
  filled-set [] i x p h = tt
  filled-set (c ∷ cs) zero x p h = (p, h.1)
  filled-set (c ∷ cs) (suc i) x p h = (h.0, filled-set cs i x p h.1)

  -- a chunk with the same entries
  pub same-chunk : (cs : List (Vec X Z)) (i : ℕ) (d x : Vec X Z) → i < length cs
      → (let c = get_or cs i d in x.items ≡ c.items) → all_of (set cs i x) ≡ all_of cs
  same-chunk cs i d x lt is =
      all_of-set cs i x lt ∙ ap (λ zs. all_of (take i cs) ++ (zs ++ all_of (drop (suc i) cs))) is
      ∙ sym (all_of-split cs i d lt)

module _ {K J : Type 0} (cmp : K → K → Ordering) (k : K) (v : J) where
  put-front : (xs ys : List (K × J)) → place_of cmp k xs ≡ length xs
      → put cmp k v (xs ++ ys) ≡ xs ++ put cmp k v ys
  put-front [] ys = λ all. refl
  put-front (x ∷ xs) ys =
      elim (cmp k x.0) as
      (λ r. cond (is_gt r) (suc (place_of cmp k xs)) 0 ≡ suc (length xs)
      → by_order r ((k, v) ∷ x ∷ (xs ++ ys)) ((x.0, v) ∷ (xs ++ ys))
      (x ∷ put cmp k v (xs ++ ys)) ≡ x ∷ (xs ++ put cmp k v ys)) [
        | Less ↦ λ all. absurd (omega (arith, all))
        | Equal ↦ λ all. absurd (omega (arith, all))
        | Greater ↦ λ all. ap (λ zs. x ∷ zs) (put-front xs ys (omega (arith, all)))
      ]

  put-below : (ys : List (K × J)) → T (below_all cmp k ys) → put cmp k v ys ≡ (k, v) ∷ ys
  put-below [] h = refl
  put-below (y ∷ ys) h =
      ap (λ r. by_order r ((k, v) ∷ y ∷ ys) ((y.0, v) ∷ ys) (y ∷ put cmp k v ys))
      (less_than (cmp k y.0) (first_part (is_lt (cmp k y.0)) (below_all cmp k ys) h))

  put-back : (xs ys : List (K × J)) → T (below_all cmp k ys)
      → put cmp k v (xs ++ ys) ≡ put cmp k v xs ++ ys
  put-back [] ys h = put-below ys h
  put-back (x ∷ xs) ys h =
      elim (cmp k x.0) as
      (λ r. by_order r ((k, v) ∷ x ∷ (xs ++ ys)) ((x.0, v) ∷ (xs ++ ys))
      (x ∷ put cmp k v (xs ++ ys))
      ≡ by_order r ((k, v) ∷ x ∷ xs) ((x.0, v) ∷ xs) (x ∷ put cmp k v xs) ++ ys) [
        | Less ↦ refl
        | Equal ↦ refl
        | Greater ↦ ap (λ zs. x ∷ zs) (put-back xs ys h)
      ]

  -- where an entry was put there is one
  pub some-put : (es : List (K × J)) → 0 < length (put cmp k v es)
  some-put [] = omega arith
  some-put (e ∷ es) =
      elim (cmp k e.0) as
      (λ r. 0 < length (by_order r ((k, v) ∷ e ∷ es) ((e.0, v) ∷ es) (e ∷ put cmp k v es))) [
        | Less ↦
            omega arith
        | Equal ↦ omega arith
        | Greater ↦ omega arith
      ]

  -- an entry put into its chunk
  pub put-chunk : {Z : Type 0} (cs : List (Vec (K × J) Z)) (i : ℕ) (d x : Vec (K × J) Z)
      → IsChunkFor cmp k cs i → (let c = get_or cs i d in x.items ≡ put cmp k v c.items)
      → all_of (set cs i x) ≡ put cmp k v (all_of cs)
  put-chunk cs i d x p is =
      let c = get_or cs i d in
      all_of-set cs i x p.in_range
      ∙ ap (λ zs. all_of (take i cs) ++ (zs ++ all_of (drop (suc i) cs))) is
      ∙ ap (λ zs. all_of (take i cs) ++ zs)
      (sym (put-back c.items (all_of (drop (suc i) cs)) p.back))
      ∙ sym (put-front (all_of (take i cs)) (c.items ++ all_of (drop (suc i) cs)) p.front)
      ∙ ap (put cmp k v) (sym (all_of-split cs i d p.in_range))

-- the chunks after an entry was put into one of them
pub chunked_put : {K J Z : Type 0} (cmp : K → K → Ordering) → IsTotalOrder cmp
    → (k : K) (v : J) (cs : List (Vec (K × J) Z)) (i : ℕ) (c x : Vec (K × J) Z) → IsChunked cmp cs
    → IsChunkFor cmp k cs i → c ≡ get_or cs i c → x.items ≡ put cmp k v c.items
    → IsChunked cmp (set cs i x) × (all_of (set cs i x) ≡ put cmp k v (all_of cs))
chunked_put {K} {J} {Z} cmp total k v cs i c x h p read is =
    let whole =
    put-chunk cmp k v cs i c x p
    (is ∙ ap (λ (y : Vec (K × J) Z). put cmp k v y.items) read) in (
      record {
        map = subst (IsMap cmp) (sym whole) (is_sorted-put cmp total k v (all_of cs) h.map);
        filled =
            filled-set cs i x (subst (λ zs. 0 < length zs) (sym is) (some-put cmp k v c.items))
            h.filled;
      },
      whole,
    )

-- the same where the chunk has its entries still
pub chunked_same : {K J Z : Type 0} (cmp : K → K → Ordering) (cs : List (Vec (K × J) Z)) (i : ℕ)
    (c x : Vec (K × J) Z) → IsChunked cmp cs → i < length cs → c ≡ get_or cs i c → x.items ≡ c.items
    → IsChunked cmp (set cs i x) × (all_of (set cs i x) ≡ all_of cs)
chunked_same {K} {J} {Z} cmp cs i c x h lt read is =
    let items = is ∙ ap (λ (y : Vec (K × J) Z). y.items) read in
    let whole = same-chunk cs i c x lt items in (
      record {
        map = subst (IsMap cmp) (sym whole) h.map;
        filled =
            filled-set cs i x
            (subst (λ zs. 0 < length zs) (sym items) (filled_at cs i c h.filled lt)) h.filled;
      },
      whole,
    )
