-- When stamps are equal.
use Rattle.std.specs.Prelude.{Bool, nat_eq}
use Rattle.std.specs.Ordering.{eq_of_both, on}
use Rattle.std.specs.Cmp.Lexicographic.{pointwise}
use Rattle.cell_core.specs.declared.stamp.Stamp.{Stamp}

-- one time, one site and one count
abbrev pub stamp_eq : Stamp → Stamp → Bool
stamp_eq =
    eq_of_both (on (λ s. s.time) nat_eq)
    (eq_of_both (on (λ s. s.site) (pointwise nat_eq)) (on (λ s. s.count) nat_eq))
