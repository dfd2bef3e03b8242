-- Maps whose values are changed one by one.
use Rattle.std.proofs.Common.{◌≡◌, true, false, cond, ◌&&◌, List, [], ◌∷◌, Option, Some, None, refl}
use Rattle.std.proofs.Common.{sym, ap, ◌∙◌, subst}
use Rattle.std.specs.Prelude.{◌↔◌, T, map}
use Rattle.std.specs.Option.{option_map}
use Rattle.std.specs.declared.cmp.Ordering.{Ordering}
use Rattle.std.specs.declared.cmp.Ordering.TheVariants.{Equal}
use Rattle.std.specs.Ordering.{is_lt, eq_by_cmp}
use Rattle.std.specs.Cmp.{IsTotalOrder}
use Rattle.std.specs.FinMap.Entries.{find, is_sorted, below_all}
use Rattle.cell_core.specs.Keyed.{IsMap, AgreeIfBoth, joined_if_both, joined_maps}
use Rattle.cell_core.specs.inner.KeyedLaws.{joined_maps-IsMap, find-joined_maps, same_maps}

module _ {K J L : Type 0} (cmp : K → K → Ordering) (f : J → L) where
  abbrev mapped : List (K × J) → List (K × L)
  mapped es = map (λ e. (e.0, f e.1)) es

  -- each value that is found
  abbrev AllFound : (J → Type 0) → List (K × J) → Type 0
  AllFound P es = (k : K) (x : J) → find cmp k es ≡ Some x → P x

  same_below : (x : K) (es : List (K × J)) → below_all cmp x (mapped es) ≡ below_all cmp x es
  same_below x [] = refl
  same_below x (e ∷ es) = ap (λ t. is_lt (cmp x e.0) && t) (same_below x es)

  same_sorted : (es : List (K × J)) → is_sorted cmp (mapped es) ≡ is_sorted cmp es
  same_sorted [] = refl
  same_sorted (e ∷ es) = λ i. same_below e.0 es i && same_sorted es i

  -- a map with its values replaced is a map
  pub mapped-IsMap : (es : List (K × J)) → IsMap cmp es → IsMap cmp (mapped es)
  mapped-IsMap es h = subst T (sym (same_sorted es)) h

  -- what the changed map has at a key
  pub find-mapped : (k : K) (es : List (K × J))
      → find cmp k (mapped es) ≡ option_map f (find cmp k es)
  find-mapped k [] = refl
  find-mapped k (e ∷ es) =
      elim (eq_by_cmp cmp k e.0) as
      (λ t. cond t (Some (f e.1)) (find cmp k (mapped es))
      ≡ option_map f (cond t (Some e.1) (find cmp k es))) [ true ↦ refl | false ↦ find-mapped k es ]

  module _ (P : J → Type 0) (agree : J → J → Type 0) (joined : J → J → J) (joined_to : L → L → L)
      (joins : (x y : J) → P x → P y → agree x y → f (joined x y) ≡ joined_to (f x) (f y)) where
    joined_if : (a b : Option J) → ((x : J) → a ≡ Some x → P x) → ((y : J) → b ≡ Some y → P y)
        → AgreeIfBoth agree a b
        → option_map f (joined_if_both joined a b)
        ≡ joined_if_both joined_to (option_map f a) (option_map f b)
    joined_if None b p q h = refl
    joined_if (Some x) None p q h = refl
    joined_if (Some x) (Some y) p q h = ap Some (joins x y (p x refl) (q y refl) h)

    -- the join of maps that agree is changed to the join of the changed
    pub mapped_joined : IsTotalOrder cmp → ((x y : K) → cmp x y ≡ Equal → x ≡ y)
        → (a b : List (K × J)) → IsMap cmp a → IsMap cmp b → AllFound P a → AllFound P b
        → ((k : K) → AgreeIfBoth agree (find cmp k a) (find cmp k b))
        → mapped (joined_maps cmp joined a b) ≡ joined_maps cmp joined_to (mapped a) (mapped b)
    mapped_joined total exact a b m n p q at =
        let both = joined_maps-IsMap cmp total joined a b m n in
        same_maps cmp total exact (mapped (joined_maps cmp joined a b))
        (joined_maps cmp joined_to (mapped a) (mapped b))
        (mapped-IsMap (joined_maps cmp joined a b) both)
        (joined_maps-IsMap cmp total joined_to (mapped a) (mapped b) (mapped-IsMap a m)
        (mapped-IsMap b n))
        (λ k. find-mapped k (joined_maps cmp joined a b)
        ∙ ap (option_map f) (find-joined_maps cmp total joined a b m n k)
        ∙ joined_if (find cmp k a) (find cmp k b) (p k) (q k) (at k)
        ∙ (λ i. joined_if_both joined_to (sym (find-mapped k a) i) (sym (find-mapped k b) i))
        ∙ sym (find-joined_maps cmp total joined_to (mapped a) (mapped b) (mapped-IsMap a m)
        (mapped-IsMap b n) k))

  module _ (P : J → Type 0) (agree : J → J → Type 0) (agree_to : L → L → Type 0)
      (agrees : (x y : J) → P x → P y → agree x y ↔ agree_to (f x) (f y)) where
    agree_if : (a b : Option J) → ((x : J) → a ≡ Some x → P x) → ((y : J) → b ≡ Some y → P y)
        → AgreeIfBoth agree a b ↔ AgreeIfBoth agree_to (option_map f a) (option_map f b)
    agree_if None b p q = ((λ h. tt), (λ h. tt))
    agree_if (Some x) None p q = ((λ h. tt), (λ h. tt))
    agree_if (Some x) (Some y) p q = agrees x y (p x refl) (q y refl)

    -- changed maps agree at their keys exactly where the maps do
    pub mapped_agree : (a b : List (K × J)) → AllFound P a → AllFound P b
        → ((k : K) → AgreeIfBoth agree (find cmp k a) (find cmp k b))
        ↔ ((k : K) → AgreeIfBoth agree_to (find cmp k (mapped a)) (find cmp k (mapped b)))
    mapped_agree a b p q = (
      λ h k. let there = agree_if (find cmp k a) (find cmp k b) (p k) (q k) in
          subst (λ o. AgreeIfBoth agree_to o (find cmp k (mapped b))) (sym (find-mapped k a))
          (subst (AgreeIfBoth agree_to (option_map f (find cmp k a))) (sym (find-mapped k b))
          (there.0 (h k))),
      λ h k. let there = agree_if (find cmp k a) (find cmp k b) (p k) (q k) in
          there.1
          (subst (AgreeIfBoth agree_to (option_map f (find cmp k a))) (find-mapped k b)
          (subst (λ o. AgreeIfBoth agree_to o (find cmp k (mapped b))) (find-mapped k a)
          (h k))),
    )
