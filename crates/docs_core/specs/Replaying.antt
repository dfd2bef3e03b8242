-- A script from bytes to bytes. Project rule.
use Rattle.std.specs.Prelude.{◌≡◌, ◌≢◌, ◌⊎◌, List, ℕ}
use Rattle.cata_core.specs.Answer.{AreAnswers, AreHeldAnswers}
use Rattle.catalogue.specs.Edits.{IsConsistent}
use Rattle.cata_core.specs.PlayFault.{IsFirstFault, IsNoClash, NoDelivers, NoneFaulty}
use Rattle.cata_core.specs.RunsTaken.{edits_of}
use Rattle.cata_core.specs.declared.answer.Answer.{Answer}
use Rattle.cata_core.specs.declared.play_fault.PlayFault.{PlayFault}
use Rattle.cata_core.specs.declared.play_fault.PlayFault.TheVariants.{NoMemory}
use Rattle.json_docs.specs.Faults.{of_no_document, of_step}
use Rattle.json_docs.specs.declared.fault.DocFault.{DocFault}
use Rattle.row_docs.specs.Reading.{IsOfDocument}
use Rattle.script_docs.specs.Reading.{ReadsAsScript, RefusesScript}
use Rattle.script_docs.specs.Scripts.{ScriptState}
use Rattle.query_docs.specs.Lines.{lines}

-- no step is faulty, and these are the answers: by what the sites hold, and where no two edits
-- clash, or nothing is delivered, the expected ones
pub record IsPlayed (script : ScriptState) (answers : List Answer) : Type 0 where
  pub sound : NoneFaulty script.sites script.steps
  pub held : AreHeldAnswers script.steps answers
  pub consistent : IsConsistent (edits_of script.steps) → AreAnswers script.steps answers
  pub undelivered : NoDelivers script.steps → AreAnswers script.steps answers

-- why the run is refused, out of memory apart: its first faulty step, which where no two edits
-- clash is no clash
pub record RefusesRun (script : ScriptState) (fault : PlayFault) : Type 0 where
  pub apart : fault ≢ NoMemory
  pub first : IsFirstFault script.sites script.steps fault
  pub no_clash : IsConsistent (edits_of script.steps) → IsNoClash fault

-- ---- from bytes to bytes

-- the bytes are a script, and the text is the lines of its answers
abbrev pub Replays : List ℕ → List ℕ → Type 0
Replays bytes text =
    (script : ScriptState) × ReadsAsScript bytes script
    × ((answers : List Answer) × IsPlayed script answers × (text ≡ lines answers))

-- the bytes are a script whose run is refused
abbrev pub RefusesSteps : List ℕ → DocFault → Type 0
RefusesSteps bytes fault =
    (script : ScriptState) × ReadsAsScript bytes script
    × ((refused : PlayFault) × RefusesRun script refused
    × (fault ≡ of_no_document (of_step refused)))

-- why bytes are not replayed, by the first stage that refuses: the script, or its steps
abbrev pub RefusesReplay : List ℕ → DocFault → Type 0
RefusesReplay bytes fault = IsOfDocument 1 (RefusesScript bytes) fault ⊎ RefusesSteps bytes fault
