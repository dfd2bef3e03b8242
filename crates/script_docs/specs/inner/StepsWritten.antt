-- Steps as they are written: why one is refused, and what its text must be.
use Rattle.std.specs.Prelude.{◌≡◌, ◌<◌, ◌^◌, ℕ, List, Option, None, Some}
use Rattle.cata_core.specs.declared.step.Step.{Step}
use Rattle.json.specs.Written.{Written}
use Rattle.lang_core.specs.Lang.{IsLang}
use Rattle.json_docs.specs.FaultChecks.{AllPass, OrMemory}
use Rattle.json_docs.specs.declared.fault.DocCause.{DocCause}
use Rattle.json_docs.specs.declared.fault.DocCause.TheVariants.{NoMemory, Shape}
use Rattle.row_docs.specs.WritingTexts.{Adds, value_tokens}
use Rattle.script_docs.specs.StepFields.{Makes, step_fields}
use Rattle.script_docs.specs.Steps.{StepText, edit_step, merge_step, filter_step, lookup_step}
use Rattle.script_docs.specs.Steps.{cells_step, tell_step, post_step, deliver_step}
use Rattle.script_docs.specs.StepsWritten.{FitsMember, IsWritableStep, step_value, written_step}
use Rattle.json_docs.specs.declared.fault.Spot.TheVariants as spot

-- ---- what a document can have

-- memory ran out, or the step at this place is not what it must be
abbrev pub RefusesRow : ℕ → Type 0 → DocCause → Type 0
RefusesRow place Holds = OrMemory NoMemory (λ cause. (¬ Holds) × (cause ≡ Shape (spot.Row place)))

-- why the step at this place is not written: no memory, or no document can have it (20)
abbrev pub RefusesStep : ℕ → Step → DocCause → Type 0
RefusesStep place step cause = RefusesRow place (IsWritableStep step) cause

-- ---- what is written for a step

-- the numbers of the text fit their members
abbrev pub HasRoom : StepText → Type 0
HasRoom (edit_step site row) = FitsMember site × (row.0.time < 2 ^ 64) × FitsMember row.0.count
HasRoom (merge_step into source) = FitsMember into × FitsMember source
HasRoom (filter_step site id scheme field) = FitsMember site
HasRoom (lookup_step site id field default) = FitsMember site
HasRoom (cells_step site) = FitsMember site
HasRoom (tell_step site) = FitsMember site
HasRoom (post_step site told) = FitsMember site × FitsMember told
HasRoom (deliver_step post) = FitsMember post

-- a default that is some is a language
abbrev pub IsDefault : Option (List ℕ) → Type 0
IsDefault None = Unit {0}
IsDefault (Some lang) = IsLang lang

-- the text is that of the step; it passes the tests of a row at any place, and makes the step
pub record IsRowOf (text : StepText) (step : Step) : Type 0 where
  pub room : HasRoom text
  pub fields : (k : ℕ) → AllPass (step_fields k text)
  pub makes : Makes text step
  pub written : text ≡ written_step step

-- a draft grew by a row of the step
abbrev pub WritesStep : Step → Written → Written → Type 0
WritesStep step old new =
    (text : StepText) × IsRowOf text step × Adds old new (value_tokens (step_value text))
