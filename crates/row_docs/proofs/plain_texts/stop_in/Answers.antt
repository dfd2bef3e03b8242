use Rattle.std.proofs.Common.{◌+◌, arith, subst, sym}
use lib.Count.{count_trailing_zeros}
use Rattle.row_docs.specs.inner.PlainTexts.{IsFirstStop}
use Rattle.row_docs.proofs.PlainTextsLemmas.{first_in_block, none_in_block}
use Rattle.row_docs.proofs.plain_texts.stop_in.Goals as goal

-- the first stop of this block
pub returns-then-found-ne0 : goal.returns-then-found-ne0
returns-then-found-ne0 c =
    let inv = c.loop-from.invariant in
    let found = c.stops_of-found.ensures in
    let from = c.loop-from.from in
    subst (λ mask. IsFirstStop c.args.bytes.now (from + count_trailing_zeros 64 mask)) (sym found)
    (first_in_block c.args.bytes.now from (omega arith) inv.before (omega (arith, found)))

-- no stop is in this block
pub loop-from-preserved : goal.loop-from-preserved
loop-from-preserved c =
    let inv = c.loop-from.invariant in
    let found = c.stops_of-found.ensures in record {
      within = omega arith;
      before = none_in_block c.args.bytes.now c.loop-from.from (omega arith) inv.before
          (omega (arith, found));
    }
