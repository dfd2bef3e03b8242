use Rattle.std.proofs.Common.{◌≡◌}
use Rattle.lang_core.specs.inner.Pieces.{pieces_left}
use Rattle.lang_core.specs.Matching.{greedy}
use Rattle.lang_core.proofs.matching.pairs.Given as goal

abbrev pub invariant-loop-piece : goal.invariant-loop-piece
invariant-loop-piece l =
    greedy (pieces_left l.fn.wanted) (pieces_left l.fn.given)
    ≡ greedy (pieces_left l.piece-iterator) (pieces_left l.given)
