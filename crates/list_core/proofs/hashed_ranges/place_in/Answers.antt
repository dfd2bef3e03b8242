use Rattle.std.proofs.Common.{sym, ◌∙◌, arith, length}
use Rattle.list_core.proofs.Basics.{same_default}
use Rattle.list_core.proofs.IndexLemmas.{found_here, none_of_all}
use Rattle.list_core.proofs.HashedRangesLemmas.{sought_first, sought_next, as_many_numbers}
use Rattle.list_core.proofs.hashed_ranges.place_in.Goals as goal

pub loop-place-init : goal.loop-place-init
loop-place-init c =
    sought_first c.args.items.now c.args.buckets.now c.args.text.now c.bucket_of-bucket.result
    c.index-place.result.now c.requires c.bucket_of-bucket.ensures.bucket
    c.bucket_of-bucket.ensures.within
    (c.index-place.ensures
    ∙ same_default c.args.buckets.now.first.items c.bucket_of-bucket.result
    c.index-place.result.now 0
    (let m = c.requires.1.many in let w = c.bucket_of-bucket.ensures.within in omega arith))

pub loop-place-preserved : goal.loop-place-preserved
loop-place-preserved c =
    sought_next c.args.items.now c.args.buckets.now c.args.text.now c.loop-place.place
    c.index-place-in-loop-place.result.now c.index-items-place.result c.requires
    c.loop-place-test.true c.index-items-place.is (sym c.is_range.ensures ∙ c.if-is_range.false)
    (c.index-place-in-loop-place.ensures
    ∙ same_default c.args.buckets.now.next.items c.loop-place.place
    c.index-place-in-loop-place.result.now 0
    (let e = c.requires.1.each in let m =
    as_many_numbers (length c.args.items.now) c.args.items.now in let low =
    c.loop-place-test.true in omega arith))
    c.loop-place.invariant

pub returns-then-is_range : goal.returns-then-is_range
returns-then-is_range c =
    found_here c.args.items.now c.args.text.now c.loop-place.place c.index-items-place.result
    c.loop-place-test.true c.index-items-place.is (sym c.is_range.ensures ∙ c.if-is_range.true)
    c.loop-place.invariant.none

pub returns : goal.returns
returns c =
    none_of_all c.args.items.now c.args.text.now c.loop-place.place c.loop-place-test.false
    c.loop-place.invariant.none
