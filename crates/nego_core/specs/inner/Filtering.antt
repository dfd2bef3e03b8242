-- What `Eq` asks of picks.
use Rattle.std.specs.Cmp.{IsEquivalence, nat_eq_equiv, and_equiv, on_equiv}
use Rattle.nego_core.specs.Filtering.{pick_eq}
use Rattle.nego_core.specs.declared.filtering.Pick.{Pick}

-- equality of picks is an equivalence
pub pick_equiv : IsEquivalence pick_eq
pick_equiv =
    and_equiv (on_equiv (λ (p : Pick). p.place) nat_eq_equiv)
    (on_equiv (λ (p : Pick). p.weight) nat_eq_equiv)
