-- Runs of entries: what one of them does to a chunk, it does to the whole, and runs joined one by
-- one join all.
--
-- The keys of a run are between those of the chunk's neighbours, so each key of the run has in all
-- entries what it has in its chunk. Then the chunk joined with the run is the middle of the whole
-- join, and the fronts and backs are as before. What is joined with one part and then with the next
-- is joined with both. Where memory ends within a run, the entries are on the way from the first
-- ones to the whole join.
use Rattle.std.proofs.Common.{◌≡◌, ℕ, suc, ◌+◌, ◌<◌, ◌≤◌, true, false, cond, List, [], ◌∷◌, ◌++◌}
use Rattle.std.proofs.Common.{length, get_or, set, take, drop, Option, Some, None, sym, ap, ◌∙◌}
use Rattle.std.proofs.Common.{subst, refl, arith, append_assoc, append-nil, length-append}
use Rattle.std.proofs.Common.{take-append-drop, ◌-◌}
use Rattle.std.proofs.lemmas.List.{take_rest, take_more, take-take, drop-take, length-drop}
use Rattle.std.specs.Prelude.{T}
use Rattle.std.specs.declared.cmp.Ordering.{Ordering}
use Rattle.std.specs.declared.cmp.Ordering.TheVariants.{Less, Equal, Greater}
use Rattle.std.specs.Ordering.{is_gt, is_eq, is_lt, eq_by_cmp}
use Rattle.std.specs.Cmp.{IsTotalOrder, tied_itself}
use Rattle.std.specs.declared.vec.Vec.{Vec}
use Rattle.std.specs.FinMap.Entries.{find, is_sorted, below_all}
use Rattle.cell_core.specs.Join.{JoinLaws}
use Rattle.cell_core.specs.Keyed.{IsMap, AgreeIfBoth, joined_if_both, BetweenIfBoth, BetweenAtKeys}
use Rattle.cell_core.specs.Keyed.{IsJoinedWith, joined_maps}
use Rattle.cell_core.specs.inner.KeyedLaws.{joined_maps-IsMap, find-joined_maps, same_maps}
use Rattle.cell_core.specs.inner.KeyedPlaces.{place_of}
use Rattle.cell_core.specs.inner.InterleaveMissing.{or_other}
use Rattle.cell_core.specs.Chunks.{all_of, IsChunked}
use Rattle.cell_core.specs.inner.Chunks.{IsRunFor}
use Rattle.cell_core.proofs.JoinAbsentLemmas.{joined_with_none, agree_none, either_agrees}
use Rattle.cell_core.proofs.JoinAbsentLemmas.{sub_agree}
use Rattle.cell_core.proofs.JoinAbsentLemmas.{whole_joined, whole_between, joined_from}
use Rattle.cell_core.proofs.JoinAbsentLemmas.{between_from}
use Rattle.cell_core.proofs.JoinAbsentLemmas.{further_joined, further_between, further_agree}
use Rattle.cell_core.proofs.Basics.{first_part, second_part, both_parts, less_than, some_not_none}
use Rattle.cell_core.proofs.Basics.{tied_order}
use Rattle.cell_core.proofs.KeyedPlacesLemmas.{below_tied, find-below}
use Rattle.cell_core.proofs.KeyedWalkLemmas.{above, below}
use Rattle.cell_core.proofs.ChunkLemmas.{map_front, map_back, find-front, all_of-split, all_of-set}
use Rattle.cell_core.proofs.ChunkLemmas.{filled-set, filled_at, find-chunk}

-- ---- the keys of a list of entries

-- what is below a key is below what ties with it
pub less_tied : {K : Type 0} (cmp : K → K → Ordering) → IsTotalOrder cmp → (k q x : K)
    → cmp q x ≡ Equal → cmp k x ≡ Less → cmp k q ≡ Less
less_tied cmp total k q x tie p =
    below cmp total q k (total.congr q x k tie ∙ above cmp total k x p)

-- ---- parts of a list

take_add : {X : Type 0} (n m : ℕ) (xs : List X) → take n xs ++ take m (drop n xs) ≡ take (n + m) xs
take_add n m xs =
    let le : n ≤ n + m = omega arith in
    ap (λ ys. ys ++ take m (drop n xs)) (sym (take-take n (n + m) xs le))
    ∙ ap (λ ys. take n (take (n + m) xs) ++ ys) (sym (drop-take n m xs))
    ∙ take-append-drop n (take (n + m) xs)

-- The first n elements of a list, and then m of what is left, are the first n + m.
pub take_run : {X : Type 0} (n m : ℕ) (xs : List X)
    → take n xs ++ take m (take (length xs - n) (drop n xs)) ≡ take (n + m) xs
take_run n m xs = ap (λ ys. take n xs ++ take m ys) (take_rest xs n) ∙ take_add n m xs

-- A list is its first n elements, and all that are left.
pub split_rest : {X : Type 0} (n : ℕ) (xs : List X)
    → xs ≡ take n xs ++ (take (length xs - n) (drop n xs) ++ [])
split_rest n xs =
    sym (ap (λ ys. take n xs ++ ys) (append-nil (take (length xs - n) (drop n xs)) ∙ take_rest xs n)
    ∙ take-append-drop n xs)

-- A list is its first n elements, the next m of what is left, and the others.
pub split_run : {X : Type 0} (n m : ℕ) (xs : List X)
    → (let rest = take (length xs - n) (drop n xs) in
    xs ≡ take n xs ++ (take m rest ++ drop m rest))
split_run n m xs =
    let rest = take (length xs - n) (drop n xs) in
    sym (ap (λ ys. take n xs ++ ys) (take-append-drop m rest ∙ take_rest xs n)
    ∙ take-append-drop n xs)

-- What is left of a list after its first n elements has n elements fewer than the list.
pub length_rest : {X : Type 0} (n : ℕ) (xs : List X)
    → length (take (length xs - n) (drop n xs)) ≡ length xs - n
length_rest n xs = ap length (take_rest xs n) ∙ length-drop n xs

-- Two lists of chunks, joined, have the entries of the first, then those of the second.
pub all_of-append : {X Z : Type 0} (cs ds : List (Vec X Z))
    → all_of (cs ++ ds) ≡ all_of cs ++ all_of ds
all_of-append [] ds = refl
all_of-append (c ∷ cs) ds =
    ap (λ xs. c.items ++ xs) (all_of-append cs ds)
    ∙ sym (append_assoc c.items (all_of cs) (all_of ds))

-- the entries of one chunk more
pub all_of_more : {X Z : Type 0} (cs : List (Vec X Z)) (i : ℕ) (c : Vec X Z) → i < length cs
    → c ≡ get_or cs i c → all_of (take i cs) ++ c.items ≡ all_of (take (i + 1) cs)
all_of_more {X} {Z} cs i c lt is =
    ap (λ xs. all_of (take i cs) ++ xs) (sym (append-nil c.items))
    ∙ sym (ap all_of (take_more cs i c lt ∙ ap (λ (y : Vec X Z). take i cs ++ y ∷ []) (sym is))
    ∙ all_of-append (take i cs) (c ∷ []))

-- how many entries there are with another chunk
pub length_with : {X Z : Type 0} (cs : List (Vec X Z)) (i : ℕ) (c x : Vec X Z) → i < length cs
    → c ≡ get_or cs i c
    → length (all_of (set cs i x)) + length c.items ≡ length (all_of cs) + length x.items
length_with {X} {Z} cs i c x lt is =
    let f = all_of (take i cs) in
    let b = all_of (drop (suc i) cs) in
    let new : length (all_of (set cs i x)) ≡ length f + (length x.items + length b) =
    ap length (all_of-set cs i x lt) ∙ length-append f (x.items ++ b)
    ∙ ap (λ n. length f + n) (length-append x.items b) in
    let old : length (all_of cs) ≡ length f + (length c.items + length b) =
    ap length (all_of-split cs i c lt ∙ ap (λ (y : Vec X Z). f ++ (y.items ++ b)) (sym is))
    ∙ length-append f (c.items ++ b) ∙ ap (λ n. length f + n) (length-append c.items b) in
    omega (arith, new, old)

module _ {K J : Type 0} (cmp : K → K → Ordering) where
  -- the rest of a map from a place on is a map
  pub map_of_rest : (n : ℕ) (es : List (K × J)) → IsMap cmp es
      → IsMap cmp (take (length es - n) (drop n es))
  map_of_rest n es map =
      subst (IsMap cmp) (sym (take_rest es n))
      (map_back cmp (take n es) (drop n es) (subst (IsMap cmp) (sym (take-append-drop n es)) map))

  -- the first entries of a map are a map
  pub map_of_take : (n : ℕ) (es : List (K × J)) → IsMap cmp es → IsMap cmp (take n es)
  map_of_take n es map =
      map_front cmp (take n es) (drop n es) (subst (IsMap cmp) (sym (take-append-drop n es)) map)

  -- a search of two parts finds what the first has, or else what the second has
  pub find-parts : (q : K) (xs ys : List (K × J))
      → find cmp q (xs ++ ys) ≡ or_other (find cmp q xs) (find cmp q ys)
  find-parts q [] ys = refl
  find-parts q (x ∷ xs) ys =
      elim (eq_by_cmp cmp q x.0) as
      (λ t. cond t (Some x.1) (find cmp q (xs ++ ys))
      ≡ or_other (cond t (Some x.1) (find cmp q xs)) (find cmp q ys)) [
        | true ↦ refl
        | false ↦ find-parts q xs ys
      ]

  below_back : (q : K) (xs ys : List (K × J)) → T (below_all cmp q (xs ++ ys))
      → T (below_all cmp q ys)
  below_back q [] ys h = h
  below_back q (x ∷ xs) ys h =
      below_back q xs ys (second_part (is_lt (cmp q x.0)) (below_all cmp q (xs ++ ys)) h)

  below_parts : (q : K) (xs ys : List (K × J)) → T (below_all cmp q xs) → T (below_all cmp q ys)
      → T (below_all cmp q (xs ++ ys))
  below_parts q [] ys h k = k
  below_parts q (x ∷ xs) ys h k =
      both_parts (is_lt (cmp q x.0)) (below_all cmp q (xs ++ ys))
      (first_part (is_lt (cmp q x.0)) (below_all cmp q xs) h)
      (below_parts q xs ys (second_part (is_lt (cmp q x.0)) (below_all cmp q xs) h) k)

  none_in_front : (q : K) (xs : List (K × J)) → place_of cmp q xs ≡ length xs → find cmp q xs ≡ None
  none_in_front q xs h = ap (find cmp q) (sym (append-nil xs)) ∙ find-front cmp q xs [] h

  -- what holds of the keys of a list holds of those of its tail
  tail_keys : (P : K → Type 0) (x : K × J) (xs : List (K × J))
      → ((q : K) (v : J) → find cmp q (x ∷ xs) ≡ Some v → P q) → (q : K) (v : J)
      → find cmp q xs ≡ Some v → P q
  tail_keys P x xs h q v is =
      elim (eq_by_cmp cmp q x.0) as (λ t. eq_by_cmp cmp q x.0 ≡ t → P q) [
        | true ↦ λ t. h q x.1 (ap (λ b. cond b (Some x.1) (find cmp q xs)) t)
        | false ↦ λ t. h q v (ap (λ b. cond b (Some x.1) (find cmp q xs)) t ∙ is)
      ] refl

  module _ (total : IsTotalOrder cmp) where
    head_key : (P : K → Type 0) (x : K × J) (xs : List (K × J))
        → ((q : K) (v : J) → find cmp q (x ∷ xs) ≡ Some v → P q) → P x.0
    head_key P x xs h =
        h x.0 x.1 (ap (λ r. cond (is_eq r) (Some x.1) (find cmp x.0 xs)) (tied_itself total x.0))

    below_of_keys : (k : K) (es : List (K × J))
        → ((q : K) (v : J) → find cmp q es ≡ Some v → cmp k q ≡ Less) → T (below_all cmp k es)
    below_of_keys k [] h = tt
    below_of_keys k (e ∷ es) h =
        both_parts (is_lt (cmp k e.0)) (below_all cmp k es)
        (subst (λ r. T (is_lt r)) (sym (head_key (λ q. cmp k q ≡ Less) e es h)) tt)
        (below_of_keys k es (tail_keys (λ q. cmp k q ≡ Less) e es h))

    -- each key of a list is above one that is below all
    pub key_above : (k : K) (es : List (K × J)) (q : K) (v : J) → T (below_all cmp k es)
        → find cmp q es ≡ Some v → cmp k q ≡ Less
    key_above k [] q v h is = absurd (some_not_none v (sym is))
    key_above k (e ∷ es) q v h is =
        elim (eq_by_cmp cmp q e.0) as
        (λ t. eq_by_cmp cmp q e.0 ≡ t → cond t (Some e.1) (find cmp q es) ≡ Some v
        → cmp k q ≡ Less) [
          | true ↦
              λ t _.
              less_tied cmp total k q e.0 (tied_order (cmp q e.0) t)
              (less_than (cmp k e.0) (first_part (is_lt (cmp k e.0)) (below_all cmp k es) h))
          | false ↦
              λ t f. key_above k es q v (second_part (is_lt (cmp k e.0)) (below_all cmp k es) h) f
        ] refl is

    -- a key whose place is after all is above each
    pub key_below : (q : K) (xs : List (K × J)) (p : K) (v : J) → place_of cmp q xs ≡ length xs
        → find cmp p xs ≡ Some v → cmp p q ≡ Less
    key_below q [] p v = λ all is. absurd (some_not_none v (sym is))
    key_below q (x ∷ xs) p v = λ all is.
        elim (cmp q x.0) as
        (λ r. cmp q x.0 ≡ r → cond (is_gt r) (suc (place_of cmp q xs)) 0 ≡ suc (length xs)
        → cmp p q ≡ Less) [
          | Less ↦ λ o h. absurd (omega (arith, h))
          | Equal ↦ λ o h. absurd (omega (arith, h))
          | Greater ↦
              λ o h. elim (eq_by_cmp cmp p x.0) as
              (λ t. eq_by_cmp cmp p x.0 ≡ t → cond t (Some x.1) (find cmp p xs) ≡ Some v
              → cmp p q ≡ Less) [
                | true ↦
                    λ t _. total.congr p x.0 q (tied_order (cmp p x.0) t) ∙ below cmp total q x.0 o
                | false ↦ λ t f. key_below q xs p v (omega (arith, h)) f
              ] refl is
        ] refl all

    -- the place of a key above all is after all
    pub place_behind : (q : K) (xs : List (K × J))
        → ((p : K) (v : J) → find cmp p xs ≡ Some v → cmp p q ≡ Less)
        → place_of cmp q xs ≡ length xs
    place_behind q [] h = refl
    place_behind q (x ∷ xs) h =
        let t : is_gt (cmp q x.0) ≡ true =
        ap is_gt (above cmp total x.0 q (head_key (λ p. cmp p q ≡ Less) x xs h)) in
        rw t (ap suc (place_behind q xs (tail_keys (λ p. cmp p q ≡ Less) x xs h)))

    -- the keys of a front are below those after it
    before : (xs ys : List (K × J)) → IsMap cmp (xs ++ ys) → (q : K) (v : J)
        → find cmp q xs ≡ Some v → T (below_all cmp q ys)
    before [] ys map q v is = absurd (some_not_none v (sym is))
    before (x ∷ xs) ys map q v is =
        elim (eq_by_cmp cmp q x.0) as
        (λ t. eq_by_cmp cmp q x.0 ≡ t → cond t (Some x.1) (find cmp q xs) ≡ Some v
        → T (below_all cmp q ys)) [
          | true ↦
              λ t _.
              below_tied cmp total q x.0 ys (tied_order (cmp q x.0) t)
              (below_back x.0 xs ys
              (first_part (below_all cmp x.0 (xs ++ ys)) (is_sorted cmp (xs ++ ys)) map))
          | false ↦
              λ t f.
              before xs ys
              (second_part (below_all cmp x.0 (xs ++ ys)) (is_sorted cmp (xs ++ ys)) map) q v f
        ] refl is

    map_of_parts : (xs ys : List (K × J)) → IsMap cmp xs → IsMap cmp ys
        → ((q : K) (v : J) → find cmp q xs ≡ Some v → T (below_all cmp q ys)) → IsMap cmp (xs ++ ys)
    map_of_parts [] ys m n h = n
    map_of_parts (x ∷ xs) ys m n h =
        both_parts (below_all cmp x.0 (xs ++ ys)) (is_sorted cmp (xs ++ ys))
        (below_parts x.0 xs ys (first_part (below_all cmp x.0 xs) (is_sorted cmp xs) m)
        (head_key (λ q. T (below_all cmp q ys)) x xs h))
        (map_of_parts xs ys (second_part (below_all cmp x.0 xs) (is_sorted cmp xs) m) n
        (tail_keys (λ q. T (below_all cmp q ys)) x xs h))

    -- a key of the middle is above the front and below the back
    middle_keys : (f c b : List (K × J)) → IsMap cmp (f ++ (c ++ b)) → (q : K) (v : J)
        → find cmp q c ≡ Some v → (place_of cmp q f ≡ length f) × T (below_all cmp q b)
    middle_keys f c b map q v is = (
      place_behind q f
          (λ p w there. key_above p (c ++ b) q v (before f (c ++ b) map p w there)
          (find-parts q c b ∙ ap (λ o. or_other o (find cmp q b)) is)),
      before c b (map_back cmp f (c ++ b) map) q v is,
    )

    -- another middle whose keys fit
    map_swapped : (f c x b : List (K × J)) → IsMap cmp (f ++ (c ++ b)) → IsMap cmp x
        → ((q : K) (v : J) → find cmp q x ≡ Some v
        → (place_of cmp q f ≡ length f) × T (below_all cmp q b)) → IsMap cmp (f ++ (x ++ b))
    map_swapped f c x b map new fits =
        map_of_parts f (x ++ b) (map_front cmp f (c ++ b) map)
        (map_of_parts x b new (map_back cmp c b (map_back cmp f (c ++ b) map))
        (λ q v is. let fit = fits q v is in fit.1))
        (λ q v is. below_parts q x b
        (below_of_keys q x
        (λ p w there. let fit = fits p w there in key_below p f q v fit.0 is))
        (below_back q c b (before f (c ++ b) map q v is)))

    -- ---- a run joined to its chunk

    module _ {Z : Type 0} (cs : List (Vec (K × J) Z)) (h : IsChunked cmp cs) (run : List (K × J))
        (i : ℕ) (fits : IsRunFor cmp run cs i) (c x : Vec (K × J) Z) (is : c ≡ get_or cs i c)
        (grows : length c.items ≤ length x.items) where
      abbrev f : List (K × J)
      f = all_of (take i cs)

      abbrev b : List (K × J)
      b = all_of (drop (suc i) cs)

      parts : all_of cs ≡ f ++ (c.items ++ b)
      parts =
          all_of-split cs i c fits.in_range
          ∙ ap (λ (y : Vec (K × J) Z). f ++ (y.items ++ b)) (sym is)

      ordered : IsMap cmp (f ++ (c.items ++ b))
      ordered = subst (IsMap cmp) parts h.map

      new_parts : all_of (set cs i x) ≡ f ++ (x.items ++ b)
      new_parts = all_of-set cs i x fits.in_range

      abbrev Fits : K → Type 0
      Fits q = (place_of cmp q f ≡ length f) × T (below_all cmp q b)

      in_chunk : (q : K) (v : J) → find cmp q c.items ≡ Some v → Fits q
      in_chunk = middle_keys f c.items b ordered

      in_run : (q : K) (v : J) → find cmp q run ≡ Some v → Fits q
      in_run q v there = let fit = fits.fits q v there in (fit.front, fit.back)

      nowhere_else : (q : K) (v : J) → find cmp q run ≡ Some v
          → (find cmp q f ≡ None) × (find cmp q b ≡ None)
      nowhere_else q v there = let fit = fits.fits q v there in
          (none_in_front q f fit.front, find-below cmp q b fit.back)

      filled : 0 < length x.items
      filled = let some =
          subst (λ (y : Vec (K × J) Z). 0 < length y.items) (sym is)
          (filled_at cs i c h.filled fits.in_range) in omega (arith, some, grows)

      chunked_with : IsMap cmp (f ++ (x.items ++ b)) → IsChunked cmp (set cs i x)
      chunked_with map =
          record {
            map = subst (IsMap cmp) (sym new_parts) map;
            filled =
                filled-set cs i x filled h.filled;
          }

      at_parts : (q : K) (m : List (K × J))
          → find cmp q (f ++ (m ++ b))
          ≡ or_other (find cmp q f) (or_other (find cmp q m) (find cmp q b))
      at_parts q m = find-parts q f (m ++ b) ∙ ap (or_other (find cmp q f)) (find-parts q m b)

      module _ (joined : J → J → J) (done : IsJoinedWith cmp joined c.items run x.items) where
        -- with a run joined to its chunk the chunks are filled and in order
        pub run_chunked : IsChunked cmp (set cs i x)
        run_chunked = chunked_with (map_swapped f c.items x.items b ordered done.map
            (λ q v there. joined_from {P = Fits q} joined (find cmp q c.items) (find cmp q run)
            (find cmp q x.items) v (done.at q) there (in_chunk q) (in_run q)))

        -- a run joined to its chunk is joined to all entries
        pub run_joined : IsJoinedWith cmp joined (all_of cs) run (all_of (set cs i x))
        run_joined = record {
          map = let new = run_chunked in new.map;
          at = λ q. ap (find cmp q) new_parts ∙ at_parts q x.items
              ∙ whole_joined joined (find cmp q f) (find cmp q c.items) (find cmp q b)
              (find cmp q run) (find cmp q x.items) (done.at q) (nowhere_else q)
              ∙ ap (λ o. joined_if_both joined o (find cmp q run))
              (sym (ap (find cmp q) parts ∙ at_parts q c.items));
        }

      module _ (between : J → J → J → Type 0) (part : BetweenAtKeys cmp between c.items x.items run)
        where
          -- where the join of a run stopped, the chunks are filled and in order
          pub stopped_chunked : IsChunked cmp (set cs i x)
          stopped_chunked = chunked_with (map_swapped f c.items x.items b ordered part.middle
              (λ q v there. between_from {P = Fits q} between (find cmp q c.items) (find cmp q run)
              (find cmp q x.items) v (part.at q) there (in_chunk q) (in_run q)))

          -- and all entries are on the way to their join with the run
          pub run_stopped : BetweenAtKeys cmp between (all_of cs) (all_of (set cs i x)) run
          run_stopped = record {
            first = h.map;
            middle = let new = stopped_chunked in new.map;
            last = part.last;
            at = λ q.
                subst (λ o. BetweenIfBoth between o (find cmp q (all_of (set cs i x)))
                (find cmp q run)) (sym (ap (find cmp q) parts ∙ at_parts q c.items))
                (subst
                (λ o. BetweenIfBoth between
                (or_other (find cmp q f) (or_other (find cmp q c.items) (find cmp q b))) o
                (find cmp q run)) (sym (ap (find cmp q) new_parts ∙ at_parts q x.items))
                (whole_between between (find cmp q f) (find cmp q c.items) (find cmp q b)
                (find cmp q run) (find cmp q x.items) (part.at q) (nowhere_else q)));
          }

    -- in a run and in its chunk the keys of the run are those of the whole
    same_at : (agree : J → J → Type 0) (a c p : Option J) → ((v : J) → p ≡ Some v → a ≡ c)
        → AgreeIfBoth agree a p → AgreeIfBoth agree c p
    same_at agree a c None h k = agree_none agree c
    same_at agree a c (Some v) h k = subst (λ o. AgreeIfBoth agree o (Some v)) (h v refl) k

    module _ {Z : Type 0} (cs : List (Vec (K × J) Z)) (h : IsChunked cmp cs) (run : List (K × J))
        (i : ℕ) (fits : IsRunFor cmp run cs i) (c : Vec (K × J) Z) (is : c ≡ get_or cs i c) where
      -- a key of the run has in all entries what it has in the chunk
      pub same_in_chunk : (q : K) (v : J) → find cmp q run ≡ Some v
          → find cmp q (all_of cs) ≡ find cmp q c.items
      same_in_chunk q v there =
          find-chunk cmp total cs h q i c (fits.fits q v there)
          ∙ ap (λ (y : Vec (K × J) Z). find cmp q y.items) (sym is)

      -- a run that agrees with all entries agrees with its chunk
      pub chunk_agrees : (agree : J → J → Type 0)
          → ((q : K) → AgreeIfBoth agree (find cmp q (all_of cs)) (find cmp q run)) → (q : K)
          → AgreeIfBoth agree (find cmp q c.items) (find cmp q run)
      chunk_agrees agree all q =
          same_at agree (find cmp q (all_of cs)) (find cmp q c.items) (find cmp q run)
          (same_in_chunk q) (all q)

    -- ---- one run after another

    apart : (done rest : List (K × J)) → IsMap cmp (done ++ rest) → (q : K) (v : J)
        → find cmp q done ≡ Some v → find cmp q rest ≡ None
    apart done rest map q v is = find-below cmp q rest (before done rest map q v is)

    -- what is joined to one part and then to the next is joined to both
    pub joined_further : (joined : J → J → J) (old done now run new : List (K × J))
        → IsMap cmp (done ++ run) → IsJoinedWith cmp joined old done now
        → IsJoinedWith cmp joined now run new → IsJoinedWith cmp joined old (done ++ run) new
    joined_further joined old done now run new map s t = record {
      map = t.map;
      at = λ q. t.at q ∙ ap (λ o. joined_if_both joined o (find cmp q run)) (s.at q)
          ∙ further_joined joined (find cmp q old) (find cmp q done) (find cmp q run)
          (apart done run map q)
          ∙ ap (joined_if_both joined (find cmp q old)) (sym (find-parts q done run));
    }

    -- a map joined to nothing is itself
    pub joined_none_yet : (joined : J → J → J) (old : List (K × J)) → IsMap cmp old
        → IsJoinedWith cmp joined old [] old
    joined_none_yet joined old map =
        record { map = map; at = λ q. sym (joined_with_none joined (find cmp q old)) }

    -- the join is one
    pub joined_is : ((x y : K) → cmp x y ≡ Equal → x ≡ y)
        → (joined : J → J → J) (xs ys zs : List (K × J)) → IsMap cmp xs → IsMap cmp ys
        → IsJoinedWith cmp joined xs ys zs → zs ≡ joined_maps cmp joined xs ys
    joined_is exact joined xs ys zs first second s =
        same_maps cmp total exact zs (joined_maps cmp joined xs ys) s.map
        (joined_maps-IsMap cmp total joined xs ys first second)
        (λ q. s.at q ∙ sym (find-joined_maps cmp total joined xs ys first second q))

    -- an empty map joined to another is the other
    pub joined_to_none : ((x y : K) → cmp x y ≡ Equal → x ≡ y)
        → (joined : J → J → J) (ys : List (K × J)) → IsMap cmp ys
        → ys ≡ joined_maps cmp joined [] ys
    joined_to_none exact joined ys map =
        joined_is exact joined [] ys ys tt map (record { map = map; at = λ q. refl })

    module _ {agree : J → J → Type 0} {joined : J → J → J} {between : J → J → J → Type 0}
        (laws : JoinLaws agree joined between)
        (old other done run rest now : List (K × J)) (is : other ≡ done ++ (run ++ rest))
        (map : IsMap cmp other)
        (agrees : (q : K) → AgreeIfBoth agree (find cmp q old) (find cmp q other))
        (s : IsJoinedWith cmp joined old done now) where
      at_all : (q : K)
          → find cmp q other
          ≡ or_other (find cmp q done) (or_other (find cmp q run) (find cmp q rest))
      at_all q =
          ap (find cmp q) is ∙ find-parts q done (run ++ rest)
          ∙ ap (or_other (find cmp q done)) (find-parts q run rest)

      apart_all : (q : K) (v : J) → find cmp q done ≡ Some v
          → or_other (find cmp q run) (find cmp q rest) ≡ None
      apart_all q v there =
          sym (find-parts q run rest)
          ∙ apart done (run ++ rest) (subst (IsMap cmp) is map) q v there

      agree_all_at : (q : K)
          → AgreeIfBoth agree (find cmp q old)
          (or_other (find cmp q done) (or_other (find cmp q run) (find cmp q rest)))
      agree_all_at q = subst (AgreeIfBoth agree (find cmp q old)) (at_all q) (agrees q)

      -- after the parts before it were joined, the run still agrees
      pub agree_further : (q : K) → AgreeIfBoth agree (find cmp q now) (find cmp q run)
      agree_further q =
          subst (λ o. AgreeIfBoth agree o (find cmp q run)) (sym (s.at q))
          (further_agree laws (find cmp q old) (find cmp q done) (find cmp q run) (find cmp q rest)
          (apart_all q) (agree_all_at q))

      -- where a run stopped, the entries are on the way from the first ones to the whole join
      pub stopped_further : (new : List (K × J)) → IsMap cmp old
          → BetweenAtKeys cmp between now new run → BetweenAtKeys cmp between old new other
      stopped_further new old_map part = record {
        first = old_map;
        middle = part.middle;
        last = map;
        at = λ q. subst (BetweenIfBoth between (find cmp q old) (find cmp q new)) (sym (at_all q))
            (further_between laws (find cmp q old) (find cmp q done) (find cmp q run)
            (find cmp q rest) (find cmp q new) (apart_all q) (agree_all_at q)
            (subst (λ o. BetweenIfBoth between o (find cmp q new) (find cmp q run)) (s.at q)
            (part.at q)));
      }

    -- what agrees with a list agrees with a run of it
    pub run_agrees : (agree : J → J → Type 0) (other done run rest held : List (K × J))
        → other ≡ done ++ (run ++ rest) → IsMap cmp other
        → ((q : K) → AgreeIfBoth agree (find cmp q other) (find cmp q held)) → (q : K)
        → AgreeIfBoth agree (find cmp q run) (find cmp q held)
    run_agrees agree other done run rest held is map all q =
        sub_agree agree (find cmp q done) (find cmp q run) (find cmp q rest) (find cmp q held)
        (λ v there. sym (find-parts q run rest)
        ∙ apart done (run ++ rest) (subst (IsMap cmp) is map) q v there)
        (subst (λ o. AgreeIfBoth agree o (find cmp q held))
        (ap (find cmp q) is ∙ find-parts q done (run ++ rest)
        ∙ ap (or_other (find cmp q done)) (find-parts q run rest)) (all q))

  -- what agrees with two fronts agrees with both together
  pub agree_parts : (agree : J → J → Type 0) (xs ys other : List (K × J))
      → ((q : K) → AgreeIfBoth agree (find cmp q xs) (find cmp q other))
      → ((q : K) → AgreeIfBoth agree (find cmp q ys) (find cmp q other)) → (q : K)
      → AgreeIfBoth agree (find cmp q (xs ++ ys)) (find cmp q other)
  agree_parts agree xs ys other g h q =
      subst (λ o. AgreeIfBoth agree o (find cmp q other)) (sym (find-parts q xs ys))
      (either_agrees agree (find cmp q xs) (find cmp q ys) (find cmp q other) (g q) (h q))
