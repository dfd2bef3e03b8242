-- Which entries go to the chunk where the first of them goes.
use Rattle.std.proofs.Common.{◌≡◌, ℕ, suc, ◌+◌, ◌<◌, true, false, cond, List, [], ◌∷◌, ◌++◌, length}
use Rattle.std.proofs.Common.{get_or, take, drop, Some, sym, ap, ◌∙◌, subst, refl, arith, add-one}
use Rattle.std.proofs.Common.{inl, inr}
use Rattle.std.specs.Prelude.{T}
use Rattle.std.specs.declared.cmp.Ordering.{Ordering}
use Rattle.std.specs.declared.cmp.Ordering.TheVariants.{Less, Greater}
use Rattle.std.specs.Ordering.{is_gt, is_lt, eq_by_cmp}
use Rattle.std.specs.Cmp.{IsTotalOrder}
use Rattle.std.specs.declared.vec.Vec.{Vec}
use Rattle.std.specs.FinMap.Entries.{find, is_sorted, below_all}
use Rattle.std.proofs.lemmas.List.{drop_all, take_all, get_or_append_left, length-append}
use Rattle.cell_core.specs.Keyed.{IsMap}
use Rattle.cell_core.specs.inner.KeyedPlaces.{place_of}
use Rattle.cell_core.specs.Chunks.{all_of, IsChunked}
use Rattle.cell_core.specs.inner.Chunks.{IsChunkFor, IsRunFor}
use Rattle.cell_core.proofs.Basics.{first_part, some_not_none, tied_order}
use Rattle.cell_core.proofs.KeyedPlacesLemmas.{find-take, below-at}
use Rattle.cell_core.proofs.KeyedWalkLemmas.{above}
use Rattle.cell_core.proofs.ChunkLemmas.{all_of-drop, filled_at, back_read}
use Rattle.cell_core.proofs.ChunkJoinsRunLemmas.{less_tied, key_above, key_below, place_behind}

module _ {K J : Type 0} (cmp : K → K → Ordering) where
  -- all before a key's place are smaller
  place_of-take : (k : K) (es : List (K × J))
      → place_of cmp k (take (place_of cmp k es) es) ≡ length (take (place_of cmp k es) es)
  place_of-take k [] = refl
  place_of-take k (e ∷ es) =
      elim (is_gt (cmp k e.0)) as
      (λ t. is_gt (cmp k e.0) ≡ t
      → place_of cmp k (take (cond t (suc (place_of cmp k es)) 0) (e ∷ es))
      ≡ length (take (cond t (suc (place_of cmp k es)) 0) (e ∷ es))) [
        | true ↦
            λ t. ap (λ b. cond b (suc (place_of cmp k (take (place_of cmp k es) es))) 0) t
            ∙ ap suc (place_of-take k es)
        | false ↦ λ t. refl
      ] refl

  -- the first of some is smaller
  pub place_of-some : (k : K) (e : K × J) (es : List (K × J)) → 0 < length es → e ≡ get_or es 0 e
      → cmp k e.0 ≡ Greater → 0 < place_of cmp k es
  place_of-some k e [] = λ some is p. absurd (omega (arith, some))
  place_of-some k e (f ∷ fs) = λ some is p.
      let t : is_gt (cmp k f.0) ≡ true =
      ap (λ (x : K × J). is_gt (cmp k x.0)) (sym is) ∙ ap is_gt p in
      rw t (omega arith)

  module _ (total : IsTotalOrder cmp) where
    -- what is below the first entry is below all
    below_first : (e : K × J) (es : List (K × J)) → 0 < length es → e ≡ get_or es 0 e → IsMap cmp es
        → (q : K) (v : J) → find cmp q es ≡ Some v → (p : K) → cmp p e.0 ≡ Less → cmp p q ≡ Less
    below_first e [] some is map q v there p less = absurd (omega (arith, some))
    below_first e (f ∷ fs) some is map q v there p less =
        let under : cmp p f.0 ≡ Less = ap (λ (x : K × J). cmp p x.0) (sym is) ∙ less in
        elim (eq_by_cmp cmp q f.0) as
        (λ t. eq_by_cmp cmp q f.0 ≡ t → cond t (Some f.1) (find cmp q fs) ≡ Some v
        → cmp p q ≡ Less) [
          | true ↦ λ t _. less_tied cmp total p q f.0 (tied_order (cmp q f.0) t) under
          | false ↦
              λ t g.
              total.trans p f.0 q under
              (key_above cmp total f.0 fs q v
              (first_part (below_all cmp f.0 fs) (is_sorted cmp fs) map) g)
        ] refl there

    module _ {Z : Type 0} (cs : List (Vec (K × J) Z)) (h : IsChunked cmp cs) (es : List (K × J))
        (map : IsMap cmp es) (some : 0 < length es) (e : K × J) (is : e ≡ get_or es 0 e) (at : ℕ)
        (first : IsChunkFor cmp e.0 cs at) where
      front_fits : (q : K) (v : J) → find cmp q es ≡ Some v
          → place_of cmp q (all_of (take at cs)) ≡ length (all_of (take at cs))
      front_fits q v there =
          place_behind cmp total q (all_of (take at cs))
          (λ p w lower. below_first e es some is map q v there p
          (key_below cmp total e.0 (all_of (take at cs)) p w first.front lower))

      -- to the last chunk all go
      pub last_run : at + 1 ≡ length cs → IsRunFor cmp (take (length es) es) cs at
      last_run last =
          subst (λ xs. IsRunFor cmp xs cs at) (sym (take_all (length es) es (omega arith)))
          (record {
            in_range = first.in_range;
            fits = λ q v there. record {
              in_range = first.in_range;
              front = front_fits q v there;
              back =
                  subst (λ (xs : List (Vec (K × J) Z)). T (below_all cmp q (all_of xs)))
                  (sym (drop_all (suc at) cs (omega (arith, last)))) tt;
            };
          })

      module _ (next : at + 1 < length cs) (d : Vec (K × J) Z) (d_is : d ≡ get_or cs (at + 1) d)
          (f : K × J) (f_is : f ≡ get_or d.items 0 f) where
        -- to another those below the first of the next chunk
        pub bounded_run : IsRunFor cmp (take (place_of cmp f.0 es) es) cs at
        bounded_run = record {
          in_range = first.in_range;
          fits = λ q v there. record {
            in_range = first.in_range;
            front =
                elim (find-take cmp q (place_of cmp f.0 es) es) as
                (λ _. place_of cmp q (all_of (take at cs)) ≡ length (all_of (take at cs))) [
                  | inl none ↦ absurd (some_not_none v (sym there ∙ none))
                  | inr same ↦ front_fits q v (sym same ∙ there)
                ];
            back = subst (λ n. T (below_all cmp q (all_of (drop n cs)))) (add-one at)
                (back_read cmp total cs h q (at + 1) d f next d_is f_is
                (ap is_lt
                (key_below cmp total f.0 (take (place_of cmp f.0 es) es) q v
                (place_of-take f.0 es) there)));
          };
        }

        filled : 0 < length d.items
        filled =
            subst (λ (x : Vec (K × J) Z). 0 < length x.items) (sym d_is)
            (filled_at cs (at + 1) d h.filled next)

        under : cmp e.0 f.0 ≡ Less
        under =
            let back =
            subst (λ n. T (below_all cmp e.0 (all_of (drop n cs)))) (sym (add-one at))
            first.back in
            let behind = all_of (drop (suc (at + 1)) cs) in
            let split =
            all_of-drop cs (at + 1) d next
            ∙ ap (λ (x : Vec (K × J) Z). x.items ++ behind) (sym d_is) in
            let all = subst (λ xs. T (below_all cmp e.0 xs)) split back in
            let long : 0 < length (d.items ++ behind) =
            simp length-append (omega (arith, filled)) in
            ap (λ (x : K × J). cmp e.0 x.0)
            (f_is ∙ sym (get_or_append_left d.items behind f 0 filled))
            ∙ below-at cmp e.0 (d.items ++ behind) 0 f all long

        -- of which there are some
        pub bounded_some : 0 < place_of cmp f.0 es
        bounded_some = place_of-some f.0 e es some is (above cmp total e.0 f.0 under)
