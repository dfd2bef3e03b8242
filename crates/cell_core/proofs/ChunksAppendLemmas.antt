-- What comes after all entries of the chunks, and what is added there.
use Rattle.std.proofs.Common.{◌≡◌, ℕ, suc, zero, ◌+◌, ◌-◌, ◌<◌, ◌≤◌, List, [], ◌∷◌, ◌++◌, length}
use Rattle.std.proofs.Common.{get_or, set, take, drop, slice_get, Some, None, sym, ap, ◌∙◌, subst}
use Rattle.std.proofs.Common.{refl, arith, append_assoc, append-nil, length-append, true, false}
use Rattle.std.proofs.Common.{cond}
use Rattle.std.specs.Prelude.{T}
use Rattle.std.specs.Ordering.{is_gt}
use Rattle.std.specs.FinMap.Entries.{find, below_all}
use Rattle.std.specs.declared.cmp.Ordering.{Ordering}
use Rattle.std.specs.declared.cmp.Ordering.TheVariants.{Equal, Greater}
use Rattle.std.specs.Cmp.{IsTotalOrder}
use Rattle.std.specs.declared.vec.Vec.{Vec}
use Rattle.std.proofs.lemmas.List.{drop_all, get_or-append-add, get_or_append_left}
use Rattle.std.proofs.lemmas.List.{get_or_default}
use Rattle.std.proofs.lemmas.Option.{get_or_from_slice_get, slice_get-get_or, slice_get_read}
use Rattle.cell_core.specs.Keyed.{IsMap}
use Rattle.cell_core.specs.inner.KeyedPlaces.{place_of, IsPlace, IsGap}
use Rattle.cell_core.specs.Chunks.{all_of, AllFilled, IsChunked}
use Rattle.cell_core.specs.inner.Chunks.{IsPlaceIn}
use Rattle.cell_core.proofs.Basics.{some_not_none}
use Rattle.cell_core.proofs.KeyedWalkLemmas.{gap_at_end, place_found_in_map}
use Rattle.cell_core.proofs.ChunkLemmas.{all_of-split, all_of-set, filled_at, chunk_map}
use Rattle.cell_core.proofs.ChunkJoinsRunLemmas.{all_of-append}

last_entry : {X : Type 0} (f c : List X) (e : X) → 0 < length c → e ≡ get_or c (length c - 1) e
    → e ≡ get_or (f ++ c) (length (f ++ c) - 1) e
last_entry f c e some is =
    let place : length (f ++ c) - 1 ≡ length f + (length c - 1) =
    omega (arith, some, length-append f c) in
    is ∙ sym (get_or-append-add f c (length c - 1) e) ∙ ap (λ n. get_or (f ++ c) n e) (sym place)

-- An element of one list has its place in that list and another after it.
pub nth_here : {X : Type 0} (c rest : List X) (n : ℕ) (e : X) → n < length c → e ≡ get_or c n e
    → slice_get (c ++ rest) n ≡ Some e
nth_here c rest n e lt is =
    slice_get_read (c ++ rest) (length (c ++ rest)) n e refl
    (omega (arith, lt, length-append c rest)) (is ∙ sym (get_or_append_left c rest e n lt))

-- A place past the elements of one list is one in the list after it, lower by their number.
pub nth_behind : {X : Type 0} (c rest : List X) (n : ℕ) → length c ≤ n
    → slice_get (c ++ rest) n ≡ slice_get rest (n - length c)
nth_behind [] rest n le = let same : n ≡ n - 0 = omega arith in ap (slice_get rest) same
nth_behind (x ∷ c) rest zero le = absurd (omega (arith, le))
nth_behind (x ∷ c) rest (suc n) le =
    let same : n - length c ≡ suc n - suc (length c) = omega arith in
    nth_behind c rest n (omega (arith, le)) ∙ ap (slice_get rest) same

module _ {X Z : Type 0} where
  -- the last chunk has the last entries
  all_of_last : (cs : List (Vec X Z)) (i : ℕ) (c : Vec X Z) → i + 1 ≡ length cs → c ≡ get_or cs i c
      → all_of cs ≡ all_of (take i cs) ++ c.items
  all_of_last cs i c last is =
      let f = all_of (take i cs) in
      all_of-split cs i c (omega (arith, last))
      ∙ ap (λ (y : Vec X Z). f ++ (y.items ++ all_of (drop (suc i) cs))) (sym is)
      ∙ ap (λ (ds : List (Vec X Z)). f ++ (c.items ++ all_of ds))
      (drop_all (suc i) cs (omega (arith, last))) ∙ ap (λ xs. f ++ xs) (append-nil c.items)

  -- an item pushed to the last chunk comes after all entries
  pub pushed_last : (cs : List (Vec X Z)) (i : ℕ) (c x : Vec X Z) (item : X) → i + 1 ≡ length cs
      → c ≡ get_or cs i c → x.items ≡ c.items ++ item ∷ []
      → all_of (set cs i x) ≡ all_of cs ++ item ∷ []
  pushed_last cs i c x item last is new =
      let f = all_of (take i cs) in
      all_of-set cs i x (omega (arith, last))
      ∙ ap (λ (ds : List (Vec X Z)). f ++ (x.items ++ all_of ds))
      (drop_all (suc i) cs (omega (arith, last)))
      ∙ ap (λ xs. f ++ xs) (append-nil x.items ∙ new)
      ∙ sym (append_assoc f c.items (item ∷ []))
      ∙ ap (λ xs. xs ++ item ∷ []) (sym (all_of_last cs i c last is))

  -- so does one in a new chunk at the end
  pub pushed_chunk : (cs : List (Vec X Z)) (x : Vec X Z) (item : X) → x.items ≡ item ∷ []
      → all_of (cs ++ x ∷ []) ≡ all_of cs ++ item ∷ []
  pushed_chunk cs x item is =
      all_of-append cs (x ∷ []) ∙ ap (λ xs. all_of cs ++ xs) (append-nil x.items ∙ is)

  -- with a chunk at the end that is not empty still none is empty
  pub filled_push : (cs : List (Vec X Z)) (x : Vec X Z) → AllFilled cs → 0 < length x.items
      → AllFilled (cs ++ x ∷ [])
  filled_push [] x h some = (some, tt)
  filled_push (c ∷ cs) x h some = (h.0, filled_push cs x h.1 some)

-- The last element of a list that has one is at the place before its length.
pub at_last : {X : Type 0} (xs : List X) (x : X) → Some x ≡ slice_get xs (length xs - 1)
    → (length xs - 1 + 1 ≡ length xs) × (x ≡ get_or xs (length xs - 1) x)
at_last [] x e = absurd (some_not_none x e)
at_last (y ∷ ys) x e =
    (omega arith, sym (get_or_from_slice_get (y ∷ ys) (length (y ∷ ys) - 1) x x (sym e)))

-- The last of chunks that are filled has an entry.
pub some_of_last : {X Z : Type 0} (cs : List (Vec X Z)) (c : Vec X Z) → AllFilled cs
    → Some c ≡ slice_get cs (length cs - 1) → 0 < length c.items
some_of_last {X} {Z} cs c filled e =
    let last = at_last cs c e in
    subst (λ (y : Vec X Z). 0 < length y.items) (sym last.1)
    (filled_at cs (length cs - 1) c filled (omega (arith, last.0)))

-- the last entry of all is that of the last chunk
pub last_of_chunks : {X Z : Type 0} (cs : List (Vec X Z)) (c : Vec X Z) → AllFilled cs
    → Some c ≡ slice_get cs (length cs - 1)
    → slice_get (all_of cs) (length (all_of cs) - 1) ≡ slice_get c.items (length c.items - 1)
last_of_chunks {X} {Z} cs c filled e =
    let last = at_last cs c e in
    let some = some_of_last cs c filled e in
    let f = all_of (take (length cs - 1) cs) in
    let at : length (f ++ c.items) - 1 - length f ≡ length c.items - 1 =
    omega (arith, length-append f c.items) in
    ap (λ (xs : List X). slice_get xs (length xs - 1))
    (all_of_last cs (length cs - 1) c last.0 last.1)
    ∙ nth_behind f c.items (length (f ++ c.items) - 1)
    (omega (arith, some, length-append f c.items)) ∙ ap (slice_get c.items) at

-- where there is no last chunk there is no entry
pub none_of_chunks : {X Z : Type 0} (cs : List (Vec X Z)) → None ≡ slice_get cs (length cs - 1)
    → None ≡ slice_get (all_of cs) (length (all_of cs) - 1)
none_of_chunks [] e = refl
none_of_chunks (c ∷ cs) e =
    absurd
    (some_not_none (get_or (c ∷ cs) (length (c ∷ cs) - 1) c)
    (sym (slice_get-get_or (c ∷ cs) (length (c ∷ cs) - 1) c (omega arith)) ∙ sym e))

-- A key above the last of all has its gap after all.
pub gap_behind : {K J Z : Type 0} (cmp : K → K → Ordering) → IsTotalOrder cmp
    → (key : K) (cs : List (Vec (K × J) Z)) (i : ℕ) (c : Vec (K × J) Z) (e : K × J)
    → IsChunked cmp cs → i + 1 ≡ length cs → c ≡ get_or cs i c
    → e ≡ get_or c.items (length c.items - 1) e → cmp key e.0 ≡ Greater
    → IsGap cmp key (all_of cs) (length (all_of cs))
gap_behind {K} {J} {Z} cmp total key cs i c e h last is read greater =
    let f = all_of (take i cs) in
    let all = f ++ c.items in
    let whole = all_of_last cs i c last is in
    let some =
    subst (λ (y : Vec (K × J) Z). 0 < length y.items) (sym is)
    (filled_at cs i c h.filled (omega (arith, last))) in
    let long : suc (length all - 1) ≡ length all = omega (arith, some, length-append f c.items) in
    subst (λ xs. IsGap cmp key xs (length xs)) (sym whole)
    (gap_at_end cmp total key all (length all - 1) e (subst (IsMap cmp) whole h.map) long
    (ap (λ (x : K × J). cmp key x.0) (sym (last_entry f c.items e some read)) ∙ greater))

-- Where there is no last chunk nothing is found.
pub none_found : {K J Z : Type 0} (cmp : K → K → Ordering) (key : K) (cs : List (Vec (K × J) Z))
    → None ≡ slice_get cs (length cs - 1) → find cmp key (all_of cs) ≡ None
none_found cmp key [] e = refl
none_found cmp key (c ∷ cs) e =
    absurd
    (some_not_none (get_or (c ∷ cs) (length (c ∷ cs) - 1) c)
    (sym (slice_get-get_or (c ∷ cs) (length (c ∷ cs) - 1) c (omega arith)) ∙ sym e))

-- a front that ends at or before the place of a key has lesser keys alone
place_front : {K J : Type 0} (cmp : K → K → Ordering) (q : K) (xs ys : List (K × J))
    → length xs ≤ place_of cmp q (xs ++ ys) → place_of cmp q xs ≡ length xs
place_front cmp q [] ys le = refl
place_front cmp q (x ∷ xs) ys le =
    elim (is_gt (cmp q x.0)) as
    (λ t. suc (length xs) ≤ cond t (suc (place_of cmp q (xs ++ ys))) 0
    → cond t (suc (place_of cmp q xs)) 0 ≡ suc (length xs)) [
      | true ↦ λ h. ap suc (place_front cmp q xs ys (omega (arith, h)))
      | false ↦ λ h. absurd (omega (arith, h))
    ] le

-- A key that ties with the last of all is in the last chunk, at its last place.
pub place_at_last : {K J Z : Type 0} (cmp : K → K → Ordering) → IsTotalOrder cmp
    → (key : K) (cs : List (Vec (K × J) Z)) (i : ℕ) (c : Vec (K × J) Z) (e : K × J)
    → IsChunked cmp cs → i + 1 ≡ length cs → c ≡ get_or cs i c
    → e ≡ get_or c.items (length c.items - 1) e → cmp key e.0 ≡ Equal
    → IsPlaceIn cmp key cs i (length c.items - 1)
place_at_last {K} {J} {Z} cmp total key cs i c e h last is read tie =
    let f = all_of (take i cs) in
    let all = f ++ c.items in
    let whole = all_of_last cs i c last is in
    let lt : i < length cs = omega (arith, last) in
    let some =
    subst (λ (y : Vec (K × J) Z). 0 < length y.items) (sym is) (filled_at cs i c h.filled lt) in
    let long : length all - 1 < length all = omega (arith, some, length-append f c.items) in
    let place =
    place_found_in_map cmp total key all (length all - 1) e (subst (IsMap cmp) whole h.map) long
    (ap (λ (x : K × J). cmp key x.0) (sym (last_entry f c.items e some read)) ∙ tie) in
    let inside =
    place_found_in_map cmp total key c.items (length c.items - 1) e
    (subst (λ (y : Vec (K × J) Z). IsMap cmp y.items) (sym is) (chunk_map cmp total cs h i c lt))
    (omega (arith, some)) (ap (λ (x : K × J). cmp key x.0) (sym read) ∙ tie) in
    record {
      fits =
          record {
            in_range = lt;
            front =
                place_front cmp key f c.items
                (omega (arith, place.is, some, length-append f c.items));
            back =
                subst (λ (ds : List (Vec (K × J) Z)). T (below_all cmp key (all_of ds)))
                (sym (drop_all (suc i) cs (omega (arith, last)))) tt;
          };
      there = λ d.
          subst (λ (y : Vec (K × J) Z). IsPlace cmp key y.items (length c.items - 1))
          (is ∙ get_or_default cs i c d lt) inside;
    }
