use Rattle.std.proofs.Common.{◌≡◌, ◌∙◌, ap, inl, inr, subst, sym}
use Rattle.std.specs.Prelude.{Some, option_map}
use Rattle.serde_json.specs.Data.{Data}
use Rattle.json_docs.specs.FaultChecks.{AllPass, FirstFails}
use Rattle.json_docs.specs.declared.fault.DocCause.TheVariants.{Shape}
use Rattle.json_docs.specs.declared.fault.Spot.TheVariants as spot
use Rattle.row_docs.specs.Cuts.{recounted}
use Rattle.row_docs.proofs.CutsFieldsLemmas.{not_there}
use Rattle.script_docs.specs.StepFields.{Makes, step_checks, step_fields}
use Rattle.script_docs.specs.Steps.{step_in}
use Rattle.script_docs.specs.inner.StepsSeen.{text_of}
use Rattle.script_docs.proofs.StepsCutLemmas.{first_step, kept_fails, kept_passes, no_step_kept}
use Rattle.script_docs.proofs.StepsCutLemmas.{step_in-cut}
use Rattle.script_docs.proofs.StepsLemmas.{AreSteps-push}
use Rattle.script_docs.proofs.scripts.StepsRowsUnit.take.Goals as goal

-- the row has the shape of no step
pub returns-in_default-clause-err : goal.returns-in_default-clause-err
returns-in_default-clause-err c = inr (λ d start before cut at held. inl (
  not_there (step_in c.args.version d) (no_step_kept (step_in c.args.version d)
      (c.in_default.ensures.step
      ∙ (ap (step_in c.args.version) cut.value ∙ step_in-cut c.args.version 0 d))),
  ap (λ k. Shape (spot.Row k)) (sym at),
))

-- the step fails a test as it is kept, and so the row, but for the count of its texts
pub returns-in-Err-clause-err : goal.returns-in-Err-clause-err
returns-in-Err-clause-err c =
    let version = c.args.version in
    let kept = text_of c.in-Some.step in
    let cause = c.in-Err.cause in
    rw c.recounted.ensures (elim c.in-Err.ensures [
      | inl memory ↦ inl (ap (recounted c.args.row.now.texts) memory)
      | inr fails ↦ inr (λ d start before cut at held.
          subst (λ n. FirstFails (step_checks version before d) (recounted n cause)) (sym cut.texts)
          (kept_fails version before d kept
          (c.in-Some.ensures.step ∙ (ap (step_in version) cut.value ∙ step_in-cut version 0 d))
          cause (subst (λ k. FirstFails (step_fields k kept) cause) (sym at) fails)))
    ])

-- the row passes its tests, and is the step that was read
pub returns-clause-ok : goal.returns-clause-ok
returns-clause-ok c = λ d start before cut at held.
    let version = c.args.version in
    let kept = text_of c.in-Some.step in
    let step = c.in-Ok.step in
    let is : Some kept ≡ option_map first_step (step_in version d) =
    c.in-Some.ensures.step ∙ (ap (step_in version) cut.value ∙ step_in-cut version 0 d) in
    let whole = kept_passes version before d kept is step
    (subst (λ k. AllPass (step_fields k kept) × Makes kept step) (sym at) c.in-Ok.ensures) in (
      whole.0,
      rw c.in_ok-push.ensures.items
          (AreSteps-push version before d c.args.self.now.steps.items step held whole.1),
    )
