-- What `Eq` asks of stamps.
use Rattle.std.specs.Cmp.{IsEquivalence, and_equiv, nat_eq_equiv, on_equiv}
use Rattle.std.specs.Cmp.Lexicographic.{on_texts_equal}
use Rattle.cell_core.specs.StampEq.{stamp_eq}
use Rattle.cell_core.specs.declared.stamp.Stamp.{Stamp}

-- equality of stamps is an equivalence
pub stamp_equiv : IsEquivalence stamp_eq
stamp_equiv =
    and_equiv (on_equiv (λ (s : Stamp). s.time) nat_eq_equiv)
    (and_equiv (on_texts_equal (λ (s : Stamp). s.site))
    (on_equiv (λ (s : Stamp). s.count) nat_eq_equiv))
