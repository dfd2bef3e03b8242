use Rattle.std.proofs.Common.{◌≡◌, List, ℕ, get_or, subst, sym, ◌∙◌, arith}
use Rattle.lang_core.specs.Text.{pieces}
use Rattle.lang_core.specs.Matching.{Extended}
use Rattle.list_core.proofs.Basics.{stands_at, same_default, false_true}
use Rattle.list_core.proofs.BucketsLemmas.{asked_better, asked_passed, asked_whole}
use Rattle.list_core.proofs.deciding.best_in.Goals as goal
use Rattle.list_core.proofs.deciding.best_in.Goals.{then-is_above+then-is_matched_by}
use Rattle.list_core.proofs.deciding.best_in.Goals.{else-is_above}
use Rattle.list_core.proofs.deciding.best_in.Goals.{else-is_above-via-then-is_above+else-is_matched_by}
use Rattle.list_core.proofs.deciding.best_in.Goals.{else-is_above-via-else-is_above}

-- The best is that of the items asked so far: this one takes its place where it has more subtags
-- and matches, and changes nothing where it has no more or does not match.
pub loop-place-preserved : goal.loop-place-preserved
loop-place-preserved c = λ numbers h.
    let stands =
    stands_at c.args.items.now c.loop-place.place c.index-items-place.result
    c.loop-place-test.true c.index-items-place.is in
    let next : c.index-place-in-loop-place.result.now
    ≡ get_or c.args.buckets.now.next.items c.loop-place.place 0 =
    c.index-place-in-loop-place.ensures
    ∙ same_default c.args.buckets.now.next.items c.loop-place.place
    c.index-place-in-loop-place.result.now 0
    (let e = h.links_ok.each in let m = h.numbers_ok.as_many in let low =
    c.loop-place-test.true in omega arith) in
    elim c.if-is_above.branch [
      | then-is_above+then-is_matched_by w ↦
          rw w.best-is
          (asked_better (λ i. Extended (pieces i.range) (pieces c.args.tag.now)) c.args.items.now
          numbers c.args.buckets.now c.args.bucket c.loop-place.place
          c.index-place-in-loop-place.result.now c.specificity-specificity.result
          c.index-items-place.result c.loop-place.best h c.loop-place-test.true next stands
          c.specificity-specificity.ensures
          (subst (λ (r : List ℕ). Extended (pieces r) (pieces c.args.tag.now)) w.range.ensures
          (w.is_matched_by.ensures.0 w.if-is_matched_by.true))
          (sym c.is_above.ensures ∙ w.if-is_above.true) (c.loop-place.invariant numbers h))
      | else-is_above w ↦
          rw w.best-is
          (asked_passed (λ i. Extended (pieces i.range) (pieces c.args.tag.now)) c.args.items.now
          numbers c.args.buckets.now c.args.bucket c.loop-place.place
          c.index-place-in-loop-place.result.now c.index-items-place.result c.loop-place.best h
          c.loop-place-test.true next stands
          (λ f. elim w.else-is_above.branch [
            | else-is_above-via-then-is_above+else-is_matched_by v ↦
                absurd
                (false_true
                (sym v.if-is_matched_by.false
                ∙ v.is_matched_by.ensures.1
                (subst (λ (r : List ℕ). Extended (pieces r) (pieces c.args.tag.now))
                (sym v.range.ensures) f)))
            | else-is_above-via-else-is_above v ↦
                rw (sym c.specificity-specificity.ensures)
                (sym c.is_above.ensures ∙ v.if-is_above.false)
          ])
          (c.loop-place.invariant numbers h))
    ]

pub returns : goal.returns
returns c =
    λ numbers h.
    asked_whole (λ i. Extended (pieces i.range) (pieces c.args.tag.now)) c.args.items.now numbers
    c.args.bucket c.loop-place.place c.loop-place.best c.loop-place-test.false
    (c.loop-place.invariant numbers h)
