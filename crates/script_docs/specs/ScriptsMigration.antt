-- Scripts of version 1, with sites by their numbers. Project rule.
use Rattle.std.specs.Prelude.{◌≡◌, ℕ, List, [], ◌∷◌, codes, Option, Some, option_map}
use Rattle.std.specs.Str.{str_to_ascii_lowercase}
use Rattle.list_core.specs.declared.scheme.Scheme.TheVariants.{Basic}
use Rattle.cata_core.specs.StepMigration.{OldStep, OldEdit, OldMerge, OldAskFilter, OldAskLookup}
use Rattle.cata_core.specs.StepMigration.{OldAskCells, OldTell, OldPost, OldDeliver, migrated_steps}
use Rattle.serde_json.specs.Data.{Data}
use Rattle.serde_json.specs.Find.{as_str}
use Rattle.json_docs.specs.Parts.{items_in, u32_in}
use Rattle.row_docs.specs.Headers.{rows_in, subject_data}
use Rattle.row_docs.specs.declared.kind.Kind.TheVariants.{Script}
use Rattle.row_docs.specs.declared.version.Version.TheVariants.{One}
use Rattle.script_docs.specs.Reading.{sites_in}
use Rattle.script_docs.specs.Scripts.{ScriptState}
use Rattle.script_docs.specs.StepFields.{Lists}
use Rattle.script_docs.specs.Steps.{merge_step, filter_step, lookup_step, cells_step, tell_step}
use Rattle.script_docs.specs.Steps.{post_step, deliver_step, step_in}
use Rattle.row_docs.specs.ShapesMigration.{old_entry_in}

-- an edit has such a row; the other steps have the same words and numbers in both versions
abbrev pub IsOldStepOf : Data → OldStep → Type 0
IsOldStepOf d (OldEdit site edit) =
    (word place row : Data) × (items_in d ≡ Some (word ∷ place ∷ row ∷ []))
    × (as_str word ≡ Some (codes "edit")) × (u32_in place ≡ Some site)
    × (old_entry_in row ≡ Some edit)
IsOldStepOf d (OldMerge into source) = step_in One d ≡ Some (merge_step into source)
IsOldStepOf d (OldAskFilter site id scheme list) =
    (field : List ℕ) × (step_in One d ≡ Some (filter_step site id scheme field))
    × Lists scheme field list
IsOldStepOf d (OldAskLookup site id list default) =
    (field : List ℕ) × (written : Option (List ℕ))
    × (step_in One d ≡ Some (lookup_step site id field written)) × Lists Basic field list
    × (default ≡ option_map str_to_ascii_lowercase written)
IsOldStepOf d (OldAskCells site) = step_in One d ≡ Some (cells_step site)
IsOldStepOf d (OldTell site) = step_in One d ≡ Some (tell_step site)
IsOldStepOf d (OldPost site told) = step_in One d ≡ Some (post_step site told)
IsOldStepOf d (OldDeliver post) = step_in One d ≡ Some (deliver_step post)

-- each row is the step at its place
abbrev pub AreOldStepsOf : List Data → List OldStep → Type 0
AreOldStepsOf [] [] = Unit {0}
AreOldStepsOf [] (step ∷ steps) = ⊥
AreOldStepsOf (d ∷ ds) [] = ⊥
AreOldStepsOf (d ∷ ds) (step ∷ steps) = IsOldStepOf d step × AreOldStepsOf ds steps

-- how many sites there are, and the steps
pub record OldScript : Type 0 where
  pub sites : ℕ
  pub steps : List OldStep

-- the document of version 1 has these sites and steps
pub record IsOldScriptDocument (d : Data) (script : OldScript) : Type 0 where
  pub sites : sites_in (subject_data Script d) ≡ Some script.sites
  pub steps : AreOldStepsOf (rows_in Script d) script.steps

-- the same with the padded names of the sites in the stamps
abbrev pub migrated_script : OldScript → ScriptState
migrated_script script = record { sites = script.sites; steps = migrated_steps script.steps }
