-- Documents of scripts: their tests in order, and what they read as. Project rule.
use Rattle.std.specs.Prelude.{◌≡◌, ℕ, List, [], ◌∷◌, ◌++◌, true, Option, None, Some, is_some}
use Rattle.std.specs.Prelude.{◌&&◌, if◌then◌else◌, nat_le, option_and_then}
use Rattle.serde_json.specs.Data.{Data}
use Rattle.json_docs.specs.FaultChecks.{Check, IsRefusal, check, rows_checks}
use Rattle.json_docs.specs.Parts.{u64_in}
use Rattle.json_docs.specs.declared.fault.DocCause.{DocCause}
use Rattle.json_docs.specs.declared.fault.DocCause.TheVariants.{Shape}
use Rattle.row_docs.specs.Headers.{header_checks, rows_in, subject_data, version_of}
use Rattle.row_docs.specs.Reading.{Reads}
use Rattle.row_docs.specs.declared.kind.Kind.TheVariants.{Script}
use Rattle.script_docs.specs.Scripts.{ScriptState}
use Rattle.script_docs.specs.StepFields.{AreSteps, step_checks}
use Rattle.json_docs.specs.declared.fault.Spot.TheVariants as spot

-- n sites, where a script may have n
abbrev pub count_of : ℕ → Option ℕ
count_of n = if nat_le 1 n && nat_le n 1024 then Some n else None

-- how many sites there are
abbrev pub sites_in : Data → Option ℕ
sites_in d = option_and_then count_of (u64_in d)

-- the member says how many sites there are, 1 to 1024
abbrev pub sites_check : Data → Check
sites_check subject = check (is_some (sites_in subject) ≡ true) (Shape spot.Document)

-- all tests of a script's document
abbrev pub script_checks : Data → List Check
script_checks d =
    header_checks Script d
    ++ (sites_check (subject_data Script d)
    ∷ rows_checks (step_checks (version_of d)) [] (rows_in Script d))

-- the document has these sites and steps
pub record IsScriptDocument (d : Data) (script : ScriptState) : Type 0 where
  pub sites : sites_in (subject_data Script d) ≡ Some script.sites
  pub steps : AreSteps (version_of d) (rows_in Script d) script.steps

-- the bytes are a document of this script
abbrev pub ReadsAsScript : List ℕ → ScriptState → Type 0
ReadsAsScript = Reads script_checks IsScriptDocument

-- why they are no document of a script
abbrev pub RefusesScript : List ℕ → DocCause → Type 0
RefusesScript = IsRefusal script_checks
