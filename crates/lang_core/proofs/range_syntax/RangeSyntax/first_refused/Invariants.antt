use Rattle.lang_core.specs.inner.Pieces.{pieces_left}
use Rattle.lang_core.specs.inner.RangeSyntax.{allowed_by}
use Rattle.lang_core.proofs.PiecesWalk.{IsWalked}
use Rattle.lang_core.proofs.range_syntax.RangeSyntax.first_refused.Given as goal

abbrev pub invariant-loop-piece : goal.invariant-loop-piece
invariant-loop-piece l =
    IsWalked (allowed_by l.self) l.text (pieces_left l.piece-iterator) l.place l.offset
