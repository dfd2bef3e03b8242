-- Steps after steps, and the tests of one.
use Rattle.std.proofs.Common.{◌≡◌, ◌++◌, List, [], ◌∷◌, inr, length, refl}
use Rattle.std.specs.Prelude.{Some}
use Rattle.cata_core.specs.declared.step.Step.{Step}
use Rattle.serde_json.specs.Data.{Data}
use Rattle.json_docs.specs.FaultChecks.{AllPass, FirstFails}
use Rattle.json_docs.specs.declared.fault.DocCause.{DocCause}
use Rattle.row_docs.specs.declared.version.Version.{Version}
use Rattle.script_docs.specs.StepFields.{AreSteps, IsStep, step_checks, step_fields}
use Rattle.script_docs.specs.Steps.{StepText, step_in}

-- one row more is one step more
pub AreSteps-push : (version : Version) (ds : List Data) (d : Data) (steps : List Step)
    (step : Step) → AreSteps version ds steps → IsStep version d step
    → AreSteps version (ds ++ d ∷ []) (steps ++ step ∷ [])
AreSteps-push version [] d [] step so_far last = (last, tt)
AreSteps-push version [] d (s ∷ ss) step so_far last = absurd so_far
AreSteps-push version (e ∷ ds) d [] step so_far last = absurd so_far
AreSteps-push version (e ∷ ds) d (s ∷ ss) step so_far last =
    (so_far.0, AreSteps-push version ds d ss step so_far.1 last)

module _ (version : Version) (before : List Data) (d : Data) where
  -- a step of the right shape whose fields pass is a row that passes
  pub step_passes : (text : StepText) → Some text ≡ step_in version d
      → AllPass (step_fields (length before) text) → AllPass (step_checks version before d)
  step_passes text is pass = rw (← is) (refl, pass)

  -- a step of the right shape, of whose fields one fails, is a row that fails for the same cause
  pub step_fails : (text : StepText) → step_in version d ≡ Some text → (e : DocCause)
      → FirstFails (step_fields (length before) text) e
      → FirstFails (step_checks version before d) e
  step_fails text is e fails = rw is (inr (refl, fails))
