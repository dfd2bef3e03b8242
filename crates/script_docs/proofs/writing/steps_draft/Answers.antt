use Rattle.std.proofs.Common.{◌≡◌, ◌<◌, ℕ, [], ap, arith, get_or, length, subst}
use Rattle.std.proofs.lemmas.Result.{err_from_is_err_and}
use Rattle.script_docs.specs.inner.Writing.{HoldsSteps}
use Rattle.script_docs.proofs.WritingLemmas.{row_more, writing_refused}
use Rattle.script_docs.proofs.writing.steps_draft.Goals as goal

-- none is written yet
pub loop-place-init : goal.loop-place-init
loop-place-init c = (
  [],
  tt,
  subst (λ (n : ℕ). HoldsSteps c.in_ok-draft.draft n []) c.sites.ensures.value
      c.in_ok-draft.ensures,
)

pub loop-place-preserved : goal.loop-place-preserved
loop-place-preserved c =
    let script = c.args.script.now in
    let step = c.index-steps-place.result in
    let size : length c.steps-steps.result.now ≡ length script.steps =
    ap length c.steps-steps.ensures in
    let within : c.loop-place.place < length script.steps =
    omega (arith, size, c.loop-place-test.true) in
    let is : step ≡ get_or script.steps c.loop-place.place step =
    rw c.steps-steps.ensures at c.index-steps-place.is in
    row_more c.loop-place.draft c.write_step.new.out script.sites script.steps c.loop-place.place
    step within
    is c.loop-place.invariant c.in_ok-write_step.ensures.ok

-- The step at this place is refused: no memory, or it is the first that no document can have, since
-- those before it were written.
pub returns-in_err-write_step-clause-err : goal.returns-in_err-write_step-clause-err
returns-in_err-write_step-clause-err c =
    let script = c.args.script.now in
    let step = c.index-steps-place.result in
    let size : length c.steps-steps.result.now ≡ length script.steps =
    ap length c.steps-steps.ensures in
    let within : c.loop-place.place < length script.steps =
    omega (arith, size, c.loop-place-test.true) in
    let is : step ≡ get_or script.steps c.loop-place.place step =
    rw c.steps-steps.ensures at c.index-steps-place.is in
    let refused =
    writing_refused c.loop-place.draft script.sites script.steps c.loop-place.place step _ within is
    c.loop-place.invariant c.in_err-write_step.ensures.err in
    let p =
    err_from_is_err_and c.from_residual-in_err-write_step.result
    c.from_residual-in_err-write_step.ensures.1 in
    rw (p.1, p.2) refused
