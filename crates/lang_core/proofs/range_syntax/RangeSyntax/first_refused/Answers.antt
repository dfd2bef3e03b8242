use Rattle.std.proofs.Common.{rules, arith}
use Rattle.lang_core.specs.inner.Pieces.{pieces_left}
use Rattle.lang_core.specs.inner.RangeSyntax.{allowed_by}
use Rattle.lang_core.proofs.PiecesWalk.{walk_start, walk_on, walk_fits}
use Rattle.lang_core.proofs.range_syntax.RangeSyntax.first_refused.Goals as goal

pub loop-piece-init : goal.loop-piece-init
loop-piece-init c = walk_start (allowed_by c.args.self) c.args.text.now _ (search rules)

pub overflow_add-offset-in-loop-piece : goal.overflow_add-offset-in-loop-piece
overflow_add-offset-in-loop-piece c =
    let fits =
    walk_fits (allowed_by c.args.self) c.args.text.now c.in-Some.piece.now
    (pieces_left c.next.new.self) c.loop-piece.place c.loop-piece.offset
    (rw (c.in-Some.ensures.steps) at c.loop-piece.invariant) in
    omega arith

pub overflow_add-place : goal.overflow_add-place
overflow_add-place c =
    let fits =
    walk_fits (allowed_by c.args.self) c.args.text.now c.in-Some.piece.now
    (pieces_left c.next.new.self) c.loop-piece.place c.loop-piece.offset
    (rw (c.in-Some.ensures.steps) at c.loop-piece.invariant) in
    omega arith

pub loop-piece-preserved : goal.loop-piece-preserved
loop-piece-preserved c =
    walk_on (allowed_by c.args.self) c.args.text.now c.in-Some.piece.now
    (pieces_left c.next.new.self) c.loop-piece.place c.loop-piece.offset
    (rw (c.in-Some.ensures.steps) at c.loop-piece.invariant) (search rules)
