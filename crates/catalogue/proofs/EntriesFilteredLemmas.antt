-- The entries of a map that pass a test.
use Rattle.std.proofs.Common.{◌≡◌, Bool, true, false, cond, List, [], ◌∷◌, Option, Some, None, refl}
use Rattle.std.proofs.Common.{sym, ap, ◌∙◌, subst}
use Rattle.std.specs.Prelude.{filter, T}
use Rattle.std.specs.declared.cmp.Ordering.{Ordering}
use Rattle.std.specs.declared.cmp.Ordering.TheVariants.{Equal}
use Rattle.std.specs.Ordering.{is_lt, eq_by_cmp}
use Rattle.std.specs.Cmp.{IsTotalOrder}
use Rattle.std.specs.FinMap.Entries.{find, is_sorted, below_all}
use Rattle.cell_core.specs.Keyed.{IsMap}
use Rattle.cell_core.proofs.Basics.{first_part, second_part, both_parts, tied_order as tied}
use Rattle.cell_core.proofs.KeyedPlacesLemmas.{find-below}

-- the value where it passes
abbrev pub kept_if : {X : Type 0} → (X → Bool) → Option X → Option X
kept_if p None = None
kept_if p (Some x) = cond (p x) (Some x) None

module _ {K J : Type 0} (cmp : K → K → Ordering) (p : K × J → Bool) where
  -- a key below all is below all that pass a test
  pub below_all-filter : (x : K) (es : List (K × J)) → T (below_all cmp x es)
      → T (below_all cmp x (filter p es))
  below_all-filter x [] h = tt
  below_all-filter x (e ∷ es) h =
      let rest = below_all-filter x es (second_part (is_lt (cmp x e.0)) (below_all cmp x es) h) in
      elim (p e) as (λ b. T (below_all cmp x (cond b (e ∷ filter p es) (filter p es)))) [
        | true ↦
            both_parts (is_lt (cmp x e.0)) (below_all cmp x (filter p es))
            (first_part (is_lt (cmp x e.0)) (below_all cmp x es) h) rest
        | false ↦ rest
      ]

  -- the entries of a map that pass a test are a map
  pub filter-IsMap : (es : List (K × J)) → IsMap cmp es → IsMap cmp (filter p es)
  filter-IsMap [] h = tt
  filter-IsMap (e ∷ es) h =
      let rest = filter-IsMap es (second_part (below_all cmp e.0 es) (is_sorted cmp es) h) in
      elim (p e) as (λ b. IsMap cmp (cond b (e ∷ filter p es) (filter p es))) [
        | true ↦
            both_parts (below_all cmp e.0 (filter p es)) (is_sorted cmp (filter p es))
            (below_all-filter e.0 es (first_part (below_all cmp e.0 es) (is_sorted cmp es) h)) rest
        | false ↦ rest
      ]

  module _ (total : IsTotalOrder cmp) (exact : (x y : K) → cmp x y ≡ Equal → x ≡ y) where
    -- what the entries that pass have at a key
    pub find-filter : (q : K) (es : List (K × J)) → IsMap cmp es
        → find cmp q (filter p es) ≡ kept_if (λ v. p (q, v)) (find cmp q es)
    find-filter q [] h = refl
    find-filter q (e ∷ es) h =
        let below = first_part (below_all cmp e.0 es) (is_sorted cmp es) h in
        let rest = find-filter q es (second_part (below_all cmp e.0 es) (is_sorted cmp es) h) in
        elim (eq_by_cmp cmp q e.0) as
        (λ t. eq_by_cmp cmp q e.0 ≡ t
        → find cmp q (cond (p e) (e ∷ filter p es) (filter p es))
        ≡ kept_if (λ v. p (q, v)) (cond t (Some e.1) (find cmp q es))) [
          | true ↦ λ t.
              let same : q ≡ e.0 = exact q e.0 (tied (cmp q e.0) t) in
              let asked : p (q, e.1) ≡ p e = ap (λ x. p (x, e.1)) same in
              elim (p e) as
              (λ b. p e ≡ b
              → find cmp q (cond b (e ∷ filter p es) (filter p es))
              ≡ cond (p (q, e.1)) (Some e.1) None) [
                | true ↦
                    λ b. ap (λ u. cond u (Some e.1) (find cmp q (filter p es))) t
                    ∙ ap (λ u. cond u (Some e.1) None) (sym (asked ∙ b))
                | false ↦
                    λ b. subst (λ x. find cmp x (filter p es) ≡ None) (sym same)
                    (find-below cmp e.0 (filter p es) (below_all-filter e.0 es below))
                    ∙ ap (λ u. cond u (Some e.1) None) (sym (asked ∙ b))
              ] refl
          | false ↦
              λ t. elim (p e) as
              (λ b. find cmp q (cond b (e ∷ filter p es) (filter p es))
              ≡ find cmp q (filter p es)) [
                | true ↦ ap (λ u. cond u (Some e.1) (find cmp q (filter p es))) t
                | false ↦ refl
              ] ∙ rest
        ] refl
