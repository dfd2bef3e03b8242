use Rattle.std.proofs.Common.{◌∙◌, ap, arith, subst, sym, length, length-append, ◌++◌, ◌∷◌, []}
use Rattle.std.proofs.lemmas.Result.{err_from_is_err_and}
use Rattle.catalogue.specs.Entries.{Entries}
use Rattle.cata_core.specs.Answer.{AreHeldAnswers, AreAnswers}
use Rattle.cata_core.specs.inner.World.{at_sites}
use Rattle.cata_core.proofs.RunsMachineLemmas.{first_fault}
use Rattle.cata_core.proofs.RunsTakenAndHeldLemmas.{consistent_no_clash}
use Rattle.cata_core.proofs.WorldLemmas.{one_more_empty}
use Rattle.cata_core.proofs.RunsPlayingLemmas.{played_on, refused_now, none_is_faulty, answers_held}
use Rattle.cata_core.proofs.RunsPlayingLemmas.{answers_consistent, answers_undelivered}
use Rattle.cata_core.proofs.runs.play.Goals as goal

pub loop-preserved : goal.loop-preserved
loop-preserved c = record {
  len = ap length c.in-Ok.ensures.items ∙ length-append c.loop.catalogues.items (c.new.result ∷ [])
      ∙ omega (arith, c.loop.invariant.len);
  empty =
      ap at_sites
      (c.in-Ok.ensures.items
      ∙ ap (λ (x : Entries). c.loop.catalogues.items ++ x ∷ []) c.new.ensures)
      ∙ one_more_empty c.loop.catalogues.items c.loop.invariant.empty;
}

pub loop-number-preserved : goal.loop-number-preserved
loop-number-preserved c =
    played_on c.args.sites c.args.steps.now c.loop-number.number c.loop-number.world
    c.index-steps-number.result c.loop-number.invariant c.loop-number-test.true
    c.index-steps-number.is c.take_step.new.self c.in_ok-take_step.ensures.ok

pub returns-in_err-take_step-clause-fault : goal.returns-in_err-take_step-clause-fault
returns-in_err-take_step-clause-fault c =
    let steps = c.args.steps.now in
    let refused =
    refused_now c.args.sites steps c.loop-number.number c.loop-number.world
    c.index-steps-number.result c.loop-number.invariant c.loop-number-test.true
    c.index-steps-number.is _ c.in_err-take_step.ensures.err in
    let p = err_from_is_err_and c.from_residual.result c.from_residual.ensures.1 in
    rw (p.1, p.2) (first_fault c.args.sites steps _ refused)

pub returns-in_err-take_step-clause-no_clash : goal.returns-in_err-take_step-clause-no_clash
returns-in_err-take_step-clause-no_clash c =
    let steps = c.args.steps.now in
    let refused =
    refused_now c.args.sites steps c.loop-number.number c.loop-number.world
    c.index-steps-number.result c.loop-number.invariant c.loop-number-test.true
    c.index-steps-number.is _ c.in_err-take_step.ensures.err in
    let p = err_from_is_err_and c.from_residual.result c.from_residual.ensures.1 in
    rw (p.1, p.2) (λ consistent. consistent_no_clash c.args.sites steps consistent _ refused)

pub returns-clause-sound : goal.returns-clause-sound
returns-clause-sound c =
    none_is_faulty c.args.sites c.args.steps.now c.loop-number.number c.loop-number.world
    c.loop-number.invariant c.loop-number-test.false

pub returns-clause-held : goal.returns-clause-held
returns-clause-held c =
    let steps = c.args.steps.now in
    subst (AreHeldAnswers steps) (sym c.new-answers.ensures)
    (answers_held c.args.sites steps c.loop-number.number c.loop-number.world
    c.loop-number.invariant c.loop-number-test.false)

pub returns-clause-consistent : goal.returns-clause-consistent
returns-clause-consistent c =
    let steps = c.args.steps.now in
    λ consistent.
    subst (AreAnswers steps) (sym c.new-answers.ensures)
    (answers_consistent c.args.sites steps c.loop-number.number c.loop-number.world
    c.loop-number.invariant c.loop-number-test.false consistent)

pub returns-clause-undelivered : goal.returns-clause-undelivered
returns-clause-undelivered c =
    let steps = c.args.steps.now in
    λ none.
    subst (AreAnswers steps) (sym c.new-answers.ensures)
    (answers_undelivered c.args.sites steps c.loop-number.number c.loop-number.world
    c.loop-number.invariant c.loop-number-test.false none)
