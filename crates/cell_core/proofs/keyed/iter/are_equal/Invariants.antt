use Rattle.std.proofs.Common.{◌≡◌, ◌&&◌, length}
use Rattle.std.specs.Cmp.Lexicographic.{pointwise}
use Rattle.cell_core.specs.Iter.{entries_left}
use Rattle.cell_core.proofs.keyed.iter.are_equal.Given as goal

abbrev pub invariant-loop-entry : goal.invariant-loop-entry
invariant-loop-entry g l =
    pointwise (λ p q. g.K.PartialEq.eq p.0 q.0 && g.J.PartialEq.eq p.1 q.1) (entries_left l.mine)
    (entries_left l.others)
    ≡ pointwise (λ p q. g.K.PartialEq.eq p.0 q.0 && g.J.PartialEq.eq p.1 q.1)
    (entries_left l.initial.mine) (entries_left l.initial.others)

abbrev pub decreases-loop-entry : goal.decreases-loop-entry
decreases-loop-entry g l = length (entries_left l.mine)
