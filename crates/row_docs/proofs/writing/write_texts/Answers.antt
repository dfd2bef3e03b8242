use Rattle.std.proofs.Common.{◌≡◌, arith, length}
use Rattle.std.proofs.Math.Seq.{take-length}
use Rattle.row_docs.proofs.WritingTextsLemmas.{Adds-then, array_closed, row_tokens-text}
use Rattle.row_docs.proofs.writing.write_texts.Goals as goal

-- one text more
pub loop-text-preserved : goal.loop-text-preserved
loop-text-preserved c =
    let more = row_tokens-text c.args.texts.now c.loop-text.text-index c.text-item.result
    c.loop-text-test.true c.text-item.is in
    let wrote = c.in_ok-string.ensures in
    rw more (Adds-then c.args.out.now c.loop-text.out c.string.new.self _ _ c.loop-text.invariant
    (wrote.room.0, rw c.as_str.ensures.value at wrote.ok))

-- all texts, and the bracket after them
pub returns : goal.returns
returns c =
    let all : c.loop-text.text-index ≡ length c.args.texts.now = omega arith in
    let texts = rw (all, take-length) at c.loop-text.invariant in
    array_closed c.args.out.now c.loop-text.out c.end_array.new.self _ texts c.end_array.result
    c.end_array.ensures
