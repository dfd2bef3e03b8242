use Rattle.std.proofs.Common.{◌≡◌, arith, length, sym}
use Rattle.std.proofs.Math.Seq.{take-length}
use Rattle.summary_docs.specs.Reading.{digest_in}
use Rattle.summary_docs.proofs.ReadingLemmas.{none_at, one_digest_more}
use Rattle.summary_docs.proofs.reading.digests_among.Goals as goal

-- the value at this place is none
pub returns-in_default : goal.returns-in_default
returns-in_default c = λ digests are.
    none_at digest_in c.args.items.now c.loop-item.item-index c.item-item.result digests
    c.loop-item-test.true c.item-item.is (sym c.in_default.ensures) are

-- one digest more
pub loop-item-preserved : goal.loop-item-preserved
loop-item-preserved c =
    one_digest_more c.args.items.now c.loop-item.item-index c.item-item.result
    c.loop-item.digests.items c.push.new.self.items c.in_ok-digest.digest c.in-Some.digest.now
    c.loop-item-test.true c.item-item.is (sym c.in-Some.ensures) c.in_ok-digest.ensures.ok
    c.in_ok-push.ensures.items c.loop-item.invariant

-- all values
pub returns : goal.returns
returns c =
    let all : c.loop-item.item-index ≡ length c.args.items.now = omega arith in
    rw (all, take-length) at c.loop-item.invariant
