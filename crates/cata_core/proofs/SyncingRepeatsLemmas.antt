-- A sync that ended for lack of memory can be repeated.
use Rattle.std.proofs.Common.{◌≡◌, ◌⊎◌, inl, inr, sym, ◌∙◌, subst}
use Rattle.cell_core.specs.Join.{IsBelow}
use Rattle.catalogue.specs.Entries.{Entries, Agree, joined, Between}
use Rattle.catalogue.specs.inner.Entries.{catalogue_laws}
use Rattle.cata_core.proofs.SyncingTurnsLemmas.{agrees_back, joined_back}

-- what is on the way to the join is below it
below_join : (a x b : Entries) → Agree a b → Between a x b → IsBelow Agree joined x (joined a b)
below_join a x b agree h =
    subst (IsBelow Agree joined x) (catalogue_laws.between_joins a x b agree h)
    (catalogue_laws.above_first x b (catalogue_laws.between_agrees a x b agree h))

-- What a sync that ran out of memory leaves still agrees, and has the same join.
pub sync_repeats : (a b x y : Entries) → Agree a b → Between a x b → Between b y a
    → (y ≡ b) ⊎ (x ≡ joined a b) → Agree x y × (joined x y ≡ joined a b)
sync_repeats a b x y agree h k one = elim one as (λ _. Agree x y × (joined x y ≡ joined a b)) [
  | inl e ↦
      subst (λ (z : Entries). Agree x z × (joined x z ≡ joined a b)) (sym e)
      (catalogue_laws.between_agrees a x b agree h, catalogue_laws.between_joins a x b agree h)
  | inr e ↦
      let back = agrees_back a b agree in
      let below : IsBelow Agree joined y (joined a b) =
      subst (IsBelow Agree joined y) (joined_back b a back) (below_join b y a back k) in
      subst (λ (z : Entries). Agree z y × (joined z y ≡ joined a b)) (sym e) (
        agrees_back y (joined a b) below.0,
        joined_back (joined a b) y
            (agrees_back y (joined a b) below.0) ∙ below.1,
      )
]
