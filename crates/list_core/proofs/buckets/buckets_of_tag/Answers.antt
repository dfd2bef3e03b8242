use Rattle.std.proofs.Common.{◌≡◌, ◌∙◌, true, false, sym, arith}
use Rattle.std.specs.Prelude.{nat_eq}
use Rattle.std.specs.List.{list_any}
use Rattle.lang_core.specs.Text.{pieces}
use Rattle.lang_core.specs.Subtags.{subtags_left}
use Rattle.list_core.proofs.PackedTagLemmas.{few_subtags}
use Rattle.list_core.proofs.BucketsLemmas.{old_bucket, new_bucket}
use Rattle.list_core.proofs.BucketsLemmas.{all_buckets}
use Rattle.list_core.proofs.buckets.buckets_of_tag.Goals as goal

pub push-requires : goal.push-requires
push-requires c =
    let h = rw c.in-Some.ensures.steps at c.loop-subtag.invariant in
    let few =
    few_subtags c.args.tag.now c.as_str-bytes.result.now c.as_str-bytes.ensures.text
    c.as_str-bytes.ensures.tag in
    let room = h.room in
    (omega arith, omega arith)

pub loop-subtag-preserved-then-not-contains : goal.loop-subtag-preserved-then-not-contains
loop-subtag-preserved-then-not-contains c =
    let absent : list_any (λ n. nat_eq n c.subtag_bucket.result) c.deref.result.now ≡ false =
    sym c.contains.ensures.value ∙ c.if-not-contains.true in
    rw c.push.ensures.items
    (new_bucket (pieces c.args.tag.now) (subtags_left c.next.new.self) c.in-Some.subtag.now
    c.subtag_bucket.result c.loop-subtag.buckets.items
    (rw c.in-Some.ensures.steps at c.loop-subtag.invariant) c.subtag_bucket.ensures.bucket
    (rw c.deref.ensures.0 at absent))

pub loop-subtag-preserved : goal.loop-subtag-preserved
loop-subtag-preserved c =
    let there : list_any (λ n. nat_eq n c.subtag_bucket.result) c.deref.result.now ≡ true =
    sym c.contains.ensures.value ∙ c.if-not-contains.false in
    old_bucket (pieces c.args.tag.now) (subtags_left c.next.new.self) c.in-Some.subtag.now
    c.subtag_bucket.result c.loop-subtag.buckets.items
    (rw c.in-Some.ensures.steps at c.loop-subtag.invariant) c.subtag_bucket.ensures.bucket
    (rw c.deref.ensures.0 at there)

pub returns : goal.returns
returns c =
    all_buckets (pieces c.args.tag.now) c.loop-subtag.buckets.items
    (rw c.in-None.ensures.steps.0 at c.loop-subtag.invariant)
