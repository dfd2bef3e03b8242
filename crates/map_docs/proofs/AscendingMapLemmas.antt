-- Entries that are added in ascending order of key.
use Rattle.std.proofs.Common.{◌≡◌, ◌∙◌, ◌-◌, ℕ, zero, suc, length, List, [], ◌∷◌, ◌++◌}
use Rattle.std.proofs.Common.{Some, arith, refl, sym, ap, subst}
use Rattle.std.specs.Prelude.{slice_get}
use Rattle.std.specs.BTreeMap.{insert_entry}
use Rattle.std.specs.Cmp.{IsTotalOrder}
use Rattle.std.specs.List.{AllByRecursion}
use Rattle.std.specs.List.Sorted.{IsStrictlySortedBy}
use Rattle.std.specs.Map.{keys_of}
use Rattle.std.specs.Ordering.{match_ordering, ordering_reverse}
use Rattle.std.specs.declared.cmp.Ordering.{Ordering}
use Rattle.std.specs.declared.cmp.Ordering.TheVariants.{Less}
use Rattle.std.proofs.lemmas.List.Elements.{All-cons, All-nil}
use Rattle.std.proofs.lemmas.Option.{none-some}
use Rattle.catalogue.proofs.Basics.{some_same}
use Rattle.catalogue.proofs.CatalogueFlatLemmas.{all_first, all_rest}
use Rattle.cell_core.specs.KeyedAbove.{IsAboveAll}

-- No keys ascend.
pub none_sorted : {K : Type 0} (X : Type 0) (cmp : K → K → Ordering)
    → IsStrictlySortedBy cmp (keys_of {X = X} [])
unfolding IsStrictlySortedBy
none_sorted X cmp = tt

module _ {K X : Type 0} {cmp : K → K → Ordering} (total : IsTotalOrder cmp) where
  -- An entry whose key is greater than all others is inserted at the end.
  pub inserted_at_end : (es : List (K × X)) (k : K) (v : X) → IsAboveAll cmp k es
      → insert_entry cmp es k v ≡ es ++ (k, v) ∷ []
  inserted_at_end [] k v above = refl
  inserted_at_end (e ∷ es) k v above =
      ap (λ o. match_ordering o ((k, v) ∷ e ∷ es) ((e.0, v) ∷ es)
      (e ∷ insert_entry cmp es k v))
      (total.antisymm k e.0
      ∙ ap ordering_reverse (all_first (λ f. cmp f.0 k ≡ Less) e es above))
      ∙ ap (λ t. e ∷ t) (inserted_at_end es k v (all_rest (λ f. cmp f.0 k ≡ Less) e es above))

  less_at : (k : K) (es : List (K × X)) (n : ℕ) (e : K × X)
      → AllByRecursion (λ y. cmp k y ≡ Less) (keys_of es) → slice_get es n ≡ Some e
      → cmp k e.0 ≡ Less
  less_at k [] n e below at = absurd (none-some e at)
  less_at k (x ∷ es) zero e below at = subst (λ y. cmp k y.0 ≡ Less) (some_same x e at) below.0
  less_at k (x ∷ es) (suc n) e below at = less_at k es n e below.1 at

  before_length : (es : List (K × X)) → suc (length es) - 1 ≡ length es
  before_length es = omega arith

  in_rest : (x y : K × X) (es : List (K × X)) (e : K × X)
      → slice_get (x ∷ y ∷ es) (suc (suc (length es)) - 1) ≡ Some e
      → slice_get (y ∷ es) (length es) ≡ Some e
  in_rest x y es e at =
      let same : suc (suc (length es)) - 1 ≡ suc (length es) = omega arith in
      subst (λ n. slice_get (x ∷ y ∷ es) n ≡ Some e) same at

  -- A key that is greater than the last one of ascending keys is greater than all.
  pub above_last : (es : List (K × X)) (e : K × X) (k : K) → IsStrictlySortedBy cmp (keys_of es)
      → slice_get es (length es - 1) ≡ Some e → cmp e.0 k ≡ Less → IsAboveAll cmp k es
  unfolding IsStrictlySortedBy
  above_last [] e k sorted at less = absurd (none-some e at)
  above_last (x ∷ []) e k sorted at less =
      All-cons (λ f. cmp f.0 k ≡ Less) x []
      (subst (λ f. cmp f.0 k ≡ Less) (sym (some_same x e at)) less)
      (All-nil (λ f. cmp f.0 k ≡ Less))
  above_last (x ∷ y ∷ es) e k sorted at less =
      All-cons (λ f. cmp f.0 k ≡ Less) x (y ∷ es)
      (total.trans x.0 e.0 k
      (less_at x.0 (y ∷ es) (length es) e sorted.0 (in_rest x y es e at)) less)
      (above_last (y ∷ es) e k sorted.1
      (subst (λ n. slice_get (y ∷ es) n ≡ Some e) (sym (before_length es))
      (in_rest x y es e at)) less)

  below_next : (k : K) (es : List (K × X)) (e : K × X) (rest : List (K × X))
      → AllByRecursion (λ y. cmp k y ≡ Less) (keys_of (es ++ e ∷ rest)) → cmp k e.0 ≡ Less
  below_next k [] e rest below = below.0
  below_next k (x ∷ es) e rest below = below_next k es e rest below.1

  -- Of ascending keys each is greater than those before it.
  pub above_front : (es : List (K × X)) (e : K × X) (rest : List (K × X))
      → IsStrictlySortedBy cmp (keys_of (es ++ e ∷ rest)) → IsAboveAll cmp e.0 es
  unfolding IsStrictlySortedBy
  above_front [] e rest sorted = All-nil (λ f. cmp f.0 e.0 ≡ Less)
  above_front (x ∷ es) e rest sorted =
      All-cons (λ f. cmp f.0 e.0 ≡ Less) x es (below_next x.0 es e rest sorted.0)
      (above_front es e rest sorted.1)

  below_end : (x : K) (es : List (K × X)) (k : K) (v : X)
      → AllByRecursion (λ y. cmp x y ≡ Less) (keys_of es) → cmp x k ≡ Less
      → AllByRecursion (λ y. cmp x y ≡ Less) (keys_of (es ++ (k, v) ∷ []))
  below_end x [] k v below less = (less, tt)
  below_end x (e ∷ es) k v below less = (below.0, below_end x es k v below.1 less)

  -- Ascending keys and one that is greater than all of them ascend.
  pub sorted_at_end : (es : List (K × X)) (k : K) (v : X) → IsStrictlySortedBy cmp (keys_of es)
      → IsAboveAll cmp k es → IsStrictlySortedBy cmp (keys_of (es ++ (k, v) ∷ []))
  unfolding IsStrictlySortedBy
  sorted_at_end [] k v sorted above = (tt, tt)
  sorted_at_end (e ∷ es) k v sorted above = (
    below_end e.0 es k v sorted.0 (all_first (λ f. cmp f.0 k ≡ Less) e es above),
    sorted_at_end es k v sorted.1 (all_rest (λ f. cmp f.0 k ≡ Less) e es above),
  )
