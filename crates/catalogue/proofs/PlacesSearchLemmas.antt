-- The entries of a map by their places.
use Rattle.std.proofs.Common.{◌≡◌, ℕ, suc, zero, ◌<◌, cond, List, [], ◌∷◌, Some, ap, ◌∙◌, subst}
use Rattle.std.proofs.Common.{arith}
use Rattle.std.specs.Prelude.{T, slice_get}
use Rattle.std.specs.declared.cmp.Ordering.{Ordering}
use Rattle.std.specs.declared.cmp.Ordering.TheVariants.{Less, Equal}
use Rattle.std.specs.Ordering.{is_eq, is_lt, ordering_reverse}
use Rattle.std.specs.Cmp.{IsTotalOrder, tied_itself}
use Rattle.std.specs.FinMap.Entries.{find, below_all, is_sorted}
use Rattle.cell_core.specs.Keyed.{IsMap}
use Rattle.cell_core.proofs.Basics.{first_part, second_part, less_than}

module _ {K J : Type 0} (R : K → K → Ordering) (total : IsTotalOrder R) where
  -- a key below all is below the one at each place
  pub below_get : (q : K) (es : List (K × J)) (i : ℕ) (k : K) (c : J) → T (below_all R q es)
      → slice_get es i ≡ Some (k, c) → R q k ≡ Less
  below_get q [] i k c h = λ is. absurd (cc)
  below_get q (e ∷ es) zero k c h = λ is. let same : e.0 ≡ k = cc in
      subst (λ x. R q x ≡ Less) same
      (less_than (R q e.0) (first_part (is_lt (R q e.0)) (below_all R q es) h))
  below_get q (e ∷ es) (suc i) k c h =
      λ is. below_get q es i k c (second_part (is_lt (R q e.0)) (below_all R q es) h) is

  -- a key of a map is below those at later places
  pub sorted_get : (es : List (K × J)) (i j : ℕ) (k l : K) (c d : J) → IsMap R es → i < j
      → slice_get es i ≡ Some (k, c) → slice_get es j ≡ Some (l, d) → R k l ≡ Less
  sorted_get [] i j k l c d m lt = λ a b. absurd (cc)
  sorted_get (e ∷ es) i zero k l c d m lt = λ a b. absurd (omega (arith, lt))
  sorted_get (e ∷ es) zero (suc j) k l c d m lt = λ a b. let same : e.0 ≡ k = cc in
      subst (λ x. R x l ≡ Less) same
      (below_get e.0 es j l d (first_part (below_all R e.0 es) (is_sorted R es) m) b)
  sorted_get (e ∷ es) (suc i) (suc j) k l c d m lt =
      λ a b.
      sorted_get es i j k l c d (second_part (below_all R e.0 es) (is_sorted R es) m)
      (omega (arith, lt)) a b

  -- what is at a place is found
  pub find_get : (es : List (K × J)) (i : ℕ) (k : K) (c : J) → IsMap R es
      → slice_get es i ≡ Some (k, c) → find R k es ≡ Some c
  find_get [] i k c m = λ is. absurd (cc)
  find_get (e ∷ es) zero k c m = λ is.
      let key : e.0 ≡ k = cc in
      let value : e.1 ≡ c = cc in
      ap (λ r. cond (is_eq r) (Some e.1) (find R k es))
      (subst (λ x. R x e.0 ≡ Equal) key (tied_itself total e.0)) ∙ ap Some value
  find_get (e ∷ es) (suc i) k c m = λ is.
      let less = below_get e.0 es i k c (first_part (below_all R e.0 es) (is_sorted R es) m) is in
      ap (λ r. cond (is_eq r) (Some e.1) (find R k es))
      (total.antisymm k e.0 ∙ ap ordering_reverse less)
      ∙ find_get es i k c (second_part (below_all R e.0 es) (is_sorted R es) m) is
