use Rattle.std.proofs.Common.{◌≡◌, length}
use Rattle.catalogue.specs.Cells.{cells_left}
use Rattle.catalogue.specs.Equality.{entries_eq}
use Rattle.catalogue.proofs.equality.are_equal.Given as goal

abbrev pub invariant-loop-cell : goal.invariant-loop-cell
invariant-loop-cell l =
    entries_eq (cells_left l.mine) (cells_left l.others)
    ≡ entries_eq (cells_left l.initial.mine) (cells_left l.initial.others)

abbrev pub decreases-loop-cell : goal.decreases-loop-cell
decreases-loop-cell l = length (cells_left l.mine)
