use Rattle.std.proofs.Common.{sym, ◌∙◌, arith}
use Rattle.lang_core.specs.Text.{pieces}
use Rattle.lang_core.specs.Subtags.{subtags_left}
use Rattle.lang_core.proofs.Basics.{true_not as not_true}
use Rattle.list_core.proofs.BucketsLemmas.{among_later, may_stand}
use Rattle.list_core.proofs.buckets.shortest_for.Goals as goal

pub loop-subtag-preserved-then-ne : goal.loop-subtag-preserved-then-ne
loop-subtag-preserved-then-ne c =
    let among = rw c.in-Some.ensures.steps at c.loop-subtag.invariant.0 in (
      among_later c.in-Some.subtag.now (subtags_left c.next.new.self) (pieces c.args.range.now)
          among,
      may_stand c.in-Some.subtag.now (subtags_left c.next.new.self) (pieces c.args.range.now)
          c.subtag_bucket-bucket.result among (not_true _ (sym c.ne.ensures ∙ c.if-ne.true))
          c.subtag_bucket-bucket.ensures.bucket,
      (let w = c.subtag_bucket-bucket.ensures.within in omega arith),
    )

pub loop-subtag-preserved-then-ne-2 : goal.loop-subtag-preserved-then-ne-2
loop-subtag-preserved-then-ne-2 c = (
  among_later c.in-Some.subtag.now (subtags_left c.next.new.self) (pieces c.args.range.now)
      (rw c.in-Some.ensures.steps at c.loop-subtag.invariant.0),
  c.loop-subtag.invariant.1,
  c.loop-subtag.invariant.2,
)

pub loop-subtag-preserved : goal.loop-subtag-preserved
loop-subtag-preserved c = (
  among_later c.in-Some.subtag.now (subtags_left c.next.new.self) (pieces c.args.range.now)
      (rw c.in-Some.ensures.steps at c.loop-subtag.invariant.0),
  c.loop-subtag.invariant.1,
  c.loop-subtag.invariant.2,
)
