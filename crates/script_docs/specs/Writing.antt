-- Documents of scripts, written. Project rule: the members of an object are in byte order of their
-- names.
use Rattle.std.specs.Prelude.{◌≡◌, ℕ, List, codes, map, take, All, Some, slice_get}
use Rattle.cata_core.specs.declared.step.Step.{Step}
use Rattle.serde_json.specs.Data.{Data, object, array, number, unsigned, string, no_members, member}
use Rattle.serde_json.specs.View.{items_of}
use Rattle.json_docs.specs.FaultChecks.{OrMemory}
use Rattle.json_docs.specs.Faults.{of_no_document}
use Rattle.json_docs.specs.declared.fault.DocCause.{DocCause}
use Rattle.json_docs.specs.declared.fault.DocCause.TheVariants.{NoMemory, Shape}
use Rattle.json_docs.specs.declared.fault.DocFault.{DocFault}
use Rattle.row_docs.specs.WritingTexts.{text}
use Rattle.script_docs.specs.Reading.{ReadsAsScript}
use Rattle.script_docs.specs.Scripts.{ScriptState}
use Rattle.script_docs.specs.StepsWritten.{IsWritableStep, step_row}
use Rattle.json_docs.specs.declared.fault.Spot.TheVariants as spot

-- the first step that no document can have
pub record IsFirstUnwritable (steps : List Step) (place : ℕ) : Type 0 where
  pub step : Step
  pub there : slice_get steps place ≡ Some step
  pub before : All IsWritableStep (take place steps)
  pub refused : ¬ IsWritableStep step

-- why a script of these steps has no document: memory ran out, or its first step that none can
-- have, whose row is meant
abbrev pub RefusesWriting : List Step → DocCause → Type 0
RefusesWriting steps =
    OrMemory NoMemory
    (λ cause. (place : ℕ) × IsFirstUnwritable steps place × (cause ≡ Shape (spot.Row place)))

-- a refusal that means no input document
abbrev pub IsOfNone : (DocCause → Type 0) → DocFault → Type 0
IsOfNone Refuses fault = (cause : DocCause) × Refuses cause × (fault ≡ of_no_document cause)

-- ---- the document

-- `{"kind":"script","sites":N,"steps":[..],"version":2}`
abbrev pub script_value : ℕ → List Data → Data
script_value sites rows = object
    (member (codes "kind") (string (codes "script"))
    (member (codes "sites") (number (unsigned sites))
    (member (codes "steps") (array (items_of rows))
    (member (codes "version") (number (unsigned 2)) no_members))))

-- the text of a script: a row for each step in order; and it reads as the script
abbrev pub IsScriptText : ScriptState → List ℕ → Type 0
IsScriptText script doc =
    (doc ≡ text (script_value script.sites (map step_row script.steps))) × ReadsAsScript doc script
