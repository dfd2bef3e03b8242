-- The tests of a step, in their order, and the step that its fields make. Project rule.
use Rattle.std.specs.Prelude.{◌≡◌, ◌≢◌, ◌≤◌, ℕ, true, List, [], ◌∷◌, length, Option, None, Some}
use Rattle.std.specs.Prelude.{is_some, option_map}
use Rattle.std.specs.Str.{str_to_ascii_lowercase}
use Rattle.list_core.specs.Field.{IsField, RefusesField}
use Rattle.list_core.specs.Item.{Item}
use Rattle.list_core.specs.declared.fault.NegoFault.{NegoFault}
use Rattle.list_core.specs.declared.fault.NegoFault.TheVariants as nego
use Rattle.list_core.specs.declared.field.Malformed.TheVariants.{Refused}
use Rattle.list_core.specs.declared.scheme.Scheme.{Scheme}
use Rattle.list_core.specs.declared.scheme.Scheme.TheVariants.{Basic}
use Rattle.cata_core.specs.declared.step.Step.{Step}
use Rattle.cata_core.specs.declared.step.Step.TheVariants.{Edit, Merge, AskFilter, AskLookup}
use Rattle.cata_core.specs.declared.step.Step.TheVariants.{AskCells, Tell, Post, Deliver}
use Rattle.serde_json.specs.Data.{Data}
use Rattle.json_docs.specs.FaultChecks.{Check, check}
use Rattle.json_docs.specs.declared.fault.DocCause.{DocCause}
use Rattle.json_docs.specs.declared.fault.DocCause.TheVariants.{Field, Shape}
use Rattle.json_docs.specs.declared.fault.FieldFault.TheVariants.{Priorities}
use Rattle.row_docs.specs.Fields.{cell_fields, entry_of, id_check, language_check}
use Rattle.row_docs.specs.declared.version.Version.{Version}
use Rattle.script_docs.specs.Steps.{StepText, edit_step, merge_step, filter_step, lookup_step}
use Rattle.script_docs.specs.Steps.{cells_step, tell_step, post_step, deliver_step, step_in}
use Rattle.json_docs.specs.declared.fault.Spot.TheVariants as spot

-- ---- priority lists

-- the text is a field of this list, each element of it well-formed
abbrev pub Lists : Scheme → List ℕ → List Item → Type 0
Lists scheme text items = (length text ≤ 65535) × IsField scheme Refused text items

-- e says why the text in row k is no priority list
abbrev pub IsListRefusal : ℕ → Scheme → List ℕ → DocCause → Type 0
IsListRefusal k scheme text e =
    (fault : NegoFault) × (fault ≢ nego.NoMemory) × RefusesField scheme Refused text fault
    × (e ≡ Field k (Priorities fault))

-- the text in row k is a priority list under the scheme, or is refused
abbrev pub list_check : ℕ → Scheme → List ℕ → Check
list_check k scheme text = record {
  passes = (items : List Item) × Lists scheme text items;
  refuses = IsListRefusal k scheme text;
}

-- ---- the tests of a step

-- no default has no test
abbrev pub default_checks : ℕ → Option (List ℕ) → List Check
default_checks k None = []
default_checks k (Some text) = language_check k text ∷ []

-- the fields of a step whose shape is right
abbrev pub step_fields : ℕ → StepText → List Check
step_fields k (edit_step site row) = cell_fields k row.0 row.1
step_fields k (merge_step into source) = []
step_fields k (filter_step site id scheme field) = id_check k id ∷ list_check k scheme field ∷ []
step_fields k (lookup_step site id field default) =
    id_check k id ∷ list_check k Basic field ∷ default_checks k default
step_fields k (cells_step site) = []
step_fields k (tell_step site) = []
step_fields k (post_step site told) = []
step_fields k (deliver_step post) = []

-- the fields of a step, if its shape is right
abbrev pub shaped_fields : ℕ → Option StepText → List Check
shaped_fields k None = []
shaped_fields k (Some text) = step_fields k text

-- a row of a script after these rows
abbrev pub step_checks : Version → List Data → Data → List Check
step_checks version before d =
    check (is_some (step_in version d) ≡ true) (Shape (spot.Row (length before)))
    ∷ shaped_fields (length before) (step_in version d)

-- ---- the step that is made

-- languages are in lower case
abbrev pub Makes : StepText → Step → Type 0
Makes (edit_step site row) step = step ≡ Edit site (entry_of row.0 row.1)
Makes (merge_step into source) step = step ≡ Merge into source
Makes (filter_step site id scheme field) step =
    (items : List Item) × Lists scheme field items × (step ≡ AskFilter site id scheme items)
Makes (lookup_step site id field default) step =
    (items : List Item) × Lists Basic field items
    × (step ≡ AskLookup site id items (option_map str_to_ascii_lowercase default))
Makes (cells_step site) step = step ≡ AskCells site
Makes (tell_step site) step = step ≡ Tell site
Makes (post_step site told) step = step ≡ Post site told
Makes (deliver_step post) step = step ≡ Deliver post

-- the row is this step
abbrev pub IsStep : Version → Data → Step → Type 0
IsStep version d step = (text : StepText) × (step_in version d ≡ Some text) × Makes text step

-- each row is the step at its place
abbrev pub AreSteps : Version → List Data → List Step → Type 0
AreSteps version [] [] = Unit {0}
AreSteps version [] (step ∷ steps) = ⊥
AreSteps version (d ∷ ds) [] = ⊥
AreSteps version (d ∷ ds) (step ∷ steps) = IsStep version d step × AreSteps version ds steps
