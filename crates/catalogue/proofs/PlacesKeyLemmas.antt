-- The places of keys in a list of entries in ascending order.
use Rattle.std.proofs.Common.{◌≡◌, ℕ, zero, suc, ◌<◌, cond, true, false, List, [], ◌∷◌}
use Rattle.std.proofs.Common.{Some, None, sym, ap, ◌∙◌, subst, refl, arith}
use Rattle.std.specs.Prelude.{T, slice_get}
use Rattle.std.specs.declared.cmp.Ordering.{Ordering}
use Rattle.std.specs.declared.cmp.Ordering.TheVariants.{Less, Equal, Greater}
use Rattle.std.specs.Ordering.{is_eq, is_lt, is_gt}
use Rattle.std.specs.Cmp.{IsTotalOrder}
use Rattle.std.specs.FinMap.Entries.{find, below_all, is_sorted}
use Rattle.cell_core.specs.Keyed.{IsMap}
use Rattle.cell_core.specs.inner.KeyedPlaces.{place_of}
use Rattle.cell_core.proofs.KeyedPlacesLemmas.{below-trans, find-below}
use Rattle.cell_core.proofs.Basics.{first_part, second_part}

greater_not : (r : Ordering) → T (is_lt r) → is_gt r ≡ false
greater_not Less h = refl
greater_not Equal h = absurd h
greater_not Greater h = absurd h

module _ {K J : Type 0} (R : K → K → Ordering) where
  -- a key below all has place 0
  pub place_of-below : (q : K) (es : List (K × J)) → T (below_all R q es) → place_of R q es ≡ 0
  place_of-below q [] h = refl
  place_of-below q (e ∷ es) h =
      ap (λ t. cond t (suc (place_of R q es)) 0)
      (greater_not (R q e.0) (first_part (is_lt (R q e.0)) (below_all R q es) h))

  -- what is found is at the key's place
  pub stands_at_place : ((x y : K) → R x y ≡ Equal → x ≡ y) → IsTotalOrder R
      → (q : K) (es : List (K × J)) (c : J) → IsMap R es → find R q es ≡ Some c
      → slice_get es (place_of R q es) ≡ Some (q, c)
  stands_at_place exact total q [] c m = λ is. absurd (cc)
  stands_at_place exact total q (e ∷ es) c m =
      elim (R q e.0) as
      (λ r. R q e.0 ≡ r → cond (is_eq r) (Some e.1) (find R q es) ≡ Some c
      → slice_get (e ∷ es) (cond (is_gt r) (suc (place_of R q es)) 0) ≡ Some (q, c)) [
        | Less ↦ λ p is. let no : Some c ≡ None =
            sym is
            ∙ find-below R q es
            (below-trans R total q e.0 es p (first_part (below_all R e.0 es) (is_sorted R es) m))
            in absurd (cc)
        | Equal ↦ λ p is. let same : e.1 ≡ c = cc in λ i. Some (sym (exact q e.0 p) i, same i)
        | Greater ↦
            λ p is.
            stands_at_place exact total q es c (second_part (below_all R e.0 es) (is_sorted R es) m)
            is
      ] refl

  -- before it are smaller keys
  pub before_place : (q : K) (es : List (K × J)) (j : ℕ) (k : K) (c : J) → j < place_of R q es
      → slice_get es j ≡ Some (k, c) → is_gt (R q k) ≡ true
  before_place q [] j k c = λ lt is. absurd (cc)
  before_place q (e ∷ es) zero k c =
      elim (is_gt (R q e.0)) as
      (λ t. is_gt (R q e.0) ≡ t → 0 < cond t (suc (place_of R q es)) 0 → Some e ≡ Some (k, c)
      → is_gt (R q k) ≡ true) [
        | true ↦ λ t lt is. let same : e ≡ (k, c) = cc in
            subst (λ (x : K × J). is_gt (R q x.0) ≡ true) same t
        | false ↦ λ t lt is. absurd (omega (arith, lt))
      ] refl
  before_place q (e ∷ es) (suc j) k c =
      elim (is_gt (R q e.0)) as
      (λ t. suc j < cond t (suc (place_of R q es)) 0 → slice_get es j ≡ Some (k, c)
      → is_gt (R q k) ≡ true) [
        | true ↦ λ lt is. before_place q es j k c (omega (arith, lt)) is
        | false ↦ λ lt is. absurd (omega (arith, lt))
      ]
