use Rattle.std.proofs.Common.{◌≡◌, ◌∙◌, ◌+◌, refl, arith, get_or}
use Rattle.list_core.specs.declared.hashed_ranges.TheConstants.{MAX_BUCKET_LEN}
use Rattle.list_core.proofs.Basics.{false_true, same_default}
use Rattle.list_core.proofs.HashedRangesLemmas.{one_more, crowded, not_crowded}
use Rattle.list_core.proofs.hashed_ranges.is_crowded.Goals as goal

pub overflow_add-length : goal.overflow_add-length
overflow_add-length c =
    let number = get_or c.args.numbers.now c.loop-number.number-index 0 in
    let small = c.requires c.loop-number.number-index c.loop-number-test.true in
    let read =
    c.index.ensures
    ∙ same_default c.loop-number.lengths.items number c.index.result.now 0
    (let m = c.loop-number.invariant.many in omega arith) in
    let each = c.loop-number.invariant.each number small in
    let few = c.loop-number.invariant.few number in
    omega arith

pub returns-then-length-gt-MAX_BUCKET_LEN : goal.returns-then-length-gt-MAX_BUCKET_LEN
returns-then-length-gt-MAX_BUCKET_LEN c =
    let number = get_or c.args.numbers.now c.loop-number.number-index 0 in
    let small = c.requires c.loop-number.number-index c.loop-number-test.true in
    let read : c.index.result.now + 1 ≡ get_or c.loop-number.lengths.items number 0 + 1 =
    (let e =
    c.index.ensures
    ∙ same_default c.loop-number.lengths.items number c.index.result.now 0
    (let m = c.loop-number.invariant.many in omega arith) in omega arith) in (
      (λ _. crowded MAX_BUCKET_LEN c.args.numbers.now c.loop-number.lengths.items
          c.loop-number.number-index number (c.index.result.now + 1) c.loop-number-test.true refl
          small read c.if-length-gt-MAX_BUCKET_LEN.true c.loop-number.invariant),
      (λ _. refl),
    )

pub loop-number-preserved : goal.loop-number-preserved
loop-number-preserved c =
    let number = get_or c.args.numbers.now c.loop-number.number-index 0 in
    let small = c.requires c.loop-number.number-index c.loop-number-test.true in
    let read : c.index.result.now + 1 ≡ get_or c.loop-number.lengths.items number 0 + 1 =
    (let e =
    c.index.ensures
    ∙ same_default c.loop-number.lengths.items number c.index.result.now 0
    (let m = c.loop-number.invariant.many in omega arith) in omega arith) in
    one_more MAX_BUCKET_LEN c.args.numbers.now c.loop-number.lengths.items
    c.loop-number.number-index number (c.index.result.now + 1) c.loop-number-test.true refl small
    read c.if-length-gt-MAX_BUCKET_LEN.false c.loop-number.invariant

pub returns : goal.returns
returns c = (
  (λ h. absurd (false_true h)),
  (λ crowd. absurd
      (not_crowded MAX_BUCKET_LEN c.args.numbers.now c.loop-number.lengths.items
      c.loop-number.number-index c.loop-number-test.false c.loop-number.invariant crowd)),
)
