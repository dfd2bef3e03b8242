-- What follows at each end of a call.
use Rattle.std.proofs.Common.{◌≡◌, ◌∙◌, ℕ, List, Bool, true, false, ap, inl, inr, refl}
use Rattle.std.specs.Prelude.{◌≢◌, ◌⊎◌, IfErr, IfOk, MatchResult, OnOk, Result, Ok, Err, is_err}
use Rattle.cata_core.specs.Answer.{AreAnswers, AreHeldAnswers}
use Rattle.catalogue.specs.Edits.{IsConsistent}
use Rattle.cata_core.specs.PlayFault.{IsFirstFault, IsNoClash, NoDelivers, NoneFaulty}
use Rattle.cata_core.specs.RunsTaken.{edits_of}
use Rattle.cata_core.specs.declared.answer.Answer.{Answer}
use Rattle.cata_core.specs.declared.play_fault.PlayFault.{PlayFault}
use Rattle.cata_core.specs.declared.play_fault.PlayFault.TheVariants.{NoMemory, NoSuchPost}
use Rattle.cata_core.specs.declared.play_fault.PlayFault.TheVariants.{NoSuchSite, StampReused}
use Rattle.json_docs.specs.FaultChecks.{OrMemory}
use Rattle.json_docs.specs.Faults.{of_no_document, of_step}
use Rattle.json_docs.specs.declared.fault.DocFault.{DocFault}
use Rattle.row_docs.specs.Reading.{no_memory}
use Rattle.script_docs.specs.Reading.{ReadsAsScript}
use Rattle.script_docs.specs.Scripts.{ScriptState}
use Rattle.docs_core.specs.Replaying.{IsPlayed, RefusesReplay, RefusesRun}

module _ (script : ScriptState) where
  faulty : (fault : PlayFault) → fault ≢ NoMemory
      → (fault ≡ NoMemory) ⊎ IsFirstFault script.sites script.steps fault
      → (IsConsistent (edits_of script.steps) → IsNoClash fault) → RefusesRun script fault
  faulty fault apart first no_clash = record {
    apart = apart;
    first = elim first [ inl memory ↦ absurd (apart memory) | inr h ↦ h ];
    no_clash = no_clash;
  }

  run_refused : (fault : PlayFault)
      → (fault ≡ NoMemory) ⊎ IsFirstFault script.sites script.steps fault
      → (IsConsistent (edits_of script.steps) → IsNoClash fault)
      → OrMemory NoMemory (RefusesRun script) fault
  run_refused (StampReused step place stamp) first no_clash =
      inr (faulty _ (λ e. cc) first no_clash)
  run_refused (NoSuchSite step) first no_clash = inr (faulty _ (λ e. cc) first no_clash)
  run_refused (NoSuchPost step) first no_clash = inr (faulty _ (λ e. cc) first no_clash)
  run_refused NoMemory first no_clash = inl refl

-- a run answers as the steps say, or is refused by its first fault
pub played_or_refused : (r : Result (List Answer) PlayFault) (script : ScriptState)
    → OnOk r (NoneFaulty script.sites script.steps) → IfOk r (AreHeldAnswers script.steps)
    → IfOk r (λ answers. IsConsistent (edits_of script.steps) → AreAnswers script.steps answers)
    → IfOk r (λ answers. NoDelivers script.steps → AreAnswers script.steps answers)
    → IfErr r (λ fault. (fault ≡ NoMemory) ⊎ IsFirstFault script.sites script.steps fault)
    → IfErr r (λ fault. IsConsistent (edits_of script.steps) → IsNoClash fault)
    → MatchResult r (IsPlayed script) (OrMemory NoMemory (RefusesRun script))
played_or_refused (Ok answers) script sound held consistent undelivered first no_clash = record {
  sound = sound;
  held = held;
  consistent = consistent;
  undelivered = undelivered;
}
played_or_refused (Err fault) script sound held consistent undelivered first no_clash =
    run_refused script fault first no_clash

-- a run that is refused, as the replay of its script
pub steps_refused : (bytes : List ℕ) (script : ScriptState) (cause : PlayFault) (fault : DocFault)
    → ReadsAsScript bytes script → OrMemory NoMemory (RefusesRun script) cause
    → fault ≡ of_no_document (of_step cause)
    → OrMemory no_memory (RefusesReplay bytes) fault
steps_refused bytes script cause fault reads why is = elim why [
  | inl memory ↦ inl (is ∙ ap (λ c. of_no_document (of_step c)) memory)
  | inr run ↦ inr (inr (script, reads, (cause, run, is)))
]

-- at the end of a write
pub written : (r : Result (Unit {0}) DocFault) (P Q : Type 0) (failed : Bool) → OnOk r P
    → failed ≡ is_err r → (P → failed ≡ false → Q) → OnOk r Q
written (Ok x) P Q failed h is more = more h is
written (Err e) P Q failed h is more = tt

-- what follows from a failed write follows from its refusal
pub not_written : (r : Result (Unit {0}) DocFault) (P Q : DocFault → Type 0) (failed : Bool)
    → IfErr r P → failed ≡ is_err r → ((e : DocFault) → P e → failed ≡ true → Q e) → IfErr r Q
not_written (Ok x) P Q failed h is more = tt
not_written (Err e) P Q failed h is more = more e h is
