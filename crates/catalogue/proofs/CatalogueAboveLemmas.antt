-- A key above all that are there.
use Rattle.std.proofs.Common.{◌≡◌, ◌+◌, List, [], ◌∷◌, ◌++◌, length, refl, ap, ◌∙◌, subst}
use Rattle.std.proofs.Common.{length-append}
use Rattle.std.specs.declared.cmp.Ordering.TheVariants.{Less}
use Rattle.std.specs.Prelude.{T}
use Rattle.std.specs.Ordering.{is_lt, ordering_reverse}
use Rattle.std.specs.FinMap.Entries.{put, by_order, is_sorted, below_all, is_sorted-put}
use Rattle.std.proofs.lemmas.List.Elements.{All-nil, All-cons}
use Rattle.cell_core.specs.Keyed.{IsMap}
use Rattle.cell_core.specs.Entry.{EntryKey, key_cmp}
use Rattle.cell_core.specs.inner.Entry.{key_cmp_total}
use Rattle.catalogue.specs.Entries.{IsAboveAll}
use Rattle.cell_core.proofs.Basics.{first_part, second_part, less_than}
use Rattle.catalogue.proofs.CatalogueFlatLemmas.{all_first, all_rest}

module _ {J : Type 0} where
  -- put there it is the last
  pub put_behind : (es : List (EntryKey × J)) (k : EntryKey) (v : J) → IsAboveAll k es
      → put key_cmp k v es ≡ es ++ (k, v) ∷ []
  put_behind [] k v above = refl
  put_behind (e ∷ es) k v above =
      let less = all_first (λ (x : EntryKey × J). key_cmp x.0 k ≡ Less) e es above in
      ap (λ r. by_order r ((k, v) ∷ e ∷ es) ((e.0, v) ∷ es) (e ∷ put key_cmp k v es))
      (key_cmp_total.antisymm k e.0 ∙ ap ordering_reverse less)
      ∙ ap (λ xs. e ∷ xs)
      (put_behind es k v (all_rest (λ (x : EntryKey × J). key_cmp x.0 k ≡ Less) e es above))

  -- a map with an entry after all, whose key is above all, is a map
  pub IsMap-behind : (es : List (EntryKey × J)) (k : EntryKey) (v : J) → IsMap key_cmp es
      → IsAboveAll k es → IsMap key_cmp (es ++ (k, v) ∷ [])
  IsMap-behind es k v m above =
      subst (IsMap key_cmp) (put_behind es k v above) (is_sorted-put key_cmp key_cmp_total k v es m)

  -- a key of a map is above those before it
  pub front_below : (xs ys : List (EntryKey × J)) (k : EntryKey) (v : J)
      → IsMap key_cmp (xs ++ (k, v) ∷ ys) → IsAboveAll k xs
  front_below [] ys k v m = All-nil (λ (e : EntryKey × J). key_cmp e.0 k ≡ Less)
  front_below (x ∷ xs) ys k v m =
      All-cons (λ (e : EntryKey × J). key_cmp e.0 k ≡ Less) x xs
      (below_it xs
      (first_part (below_all key_cmp x.0 (xs ++ (k, v) ∷ ys))
      (is_sorted key_cmp (xs ++ (k, v) ∷ ys)) m))
      (front_below xs ys k v
      (second_part (below_all key_cmp x.0 (xs ++ (k, v) ∷ ys))
      (is_sorted key_cmp (xs ++ (k, v) ∷ ys)) m))
    where
      below_it : (xs : List (EntryKey × J)) → T (below_all key_cmp x.0 (xs ++ (k, v) ∷ ys))
          → key_cmp x.0 k ≡ Less
      below_it [] h =
          less_than (key_cmp x.0 k)
          (first_part (is_lt (key_cmp x.0 k)) (below_all key_cmp x.0 ys) h)
      below_it (e ∷ xs) h =
          below_it xs
          (second_part (is_lt (key_cmp x.0 e.0)) (below_all key_cmp x.0 (xs ++ (k, v) ∷ ys)) h)

  -- and there is one entry more
  pub length_behind : (es new : List (EntryKey × J)) (k : EntryKey) (v : J) → IsAboveAll k es
      → new ≡ put key_cmp k v es → length new ≡ length es + 1
  length_behind es new k v above is =
      ap length (is ∙ put_behind es k v above) ∙ length-append es ((k, v) ∷ [])
