-- What is read of a script of version 1 is what its plain data become.
--
-- In version 1 a stamp has its site by a number. Only the row of an edit has a stamp, so that row
-- alone is migrated: the number becomes the padded name of the site. All other steps have the same
-- words and numbers in both versions, and are read as they stand. The list of steps follows item by
-- item.
use Rattle.std.proofs.Common.{◌≡◌, ◌∙◌, ℕ, List, [], ◌∷◌, Bool, true, false, codes, ap, sym, refl}
use Rattle.std.specs.Prelude.{Option, None, Some, option_map, option_and_then, if◌then◌else◌}
use Rattle.std.specs.Str.{str_to_ascii_lowercase}
use Rattle.std.proofs.lemmas.Slice.Eq.{bytes_eq-Decides}
use Rattle.cata_core.specs.StepMigration.{OldStep, OldEdit, OldMerge, OldAskFilter, OldAskLookup}
use Rattle.cata_core.specs.StepMigration.{OldAskCells, OldTell, OldPost, OldDeliver, migrated_step}
use Rattle.cata_core.specs.StepMigration.{migrated_steps}
use Rattle.cata_core.specs.declared.step.Step.{Step as StepType}
use Rattle.cata_core.specs.declared.step.Step.TheVariants as step
use Rattle.serde_json.specs.Data.{Data}
use Rattle.serde_json.specs.Find.{as_str}
use Rattle.json_docs.specs.Parts.{items_in, u32_in}
use Rattle.row_docs.specs.Headers.{rows_in, version_of}
use Rattle.row_docs.specs.ShapesRows.{cell_in}
use Rattle.row_docs.specs.EntriesValues.{Row}
use Rattle.script_docs.specs.Reading.{IsScriptDocument}
use Rattle.script_docs.specs.Scripts.{ScriptState}
use Rattle.script_docs.specs.StepFields.{AreSteps, IsStep}
use Rattle.script_docs.specs.Steps.{StepText, edit_step, merge_step, filter_step, lookup_step}
use Rattle.script_docs.specs.Steps.{cells_step, tell_step, post_step, deliver_step, step_after}
use Rattle.script_docs.specs.Steps.{default_in, edit_of, filter_of, lookup_of, one_of, scheme_in}
use Rattle.script_docs.specs.Steps.{step_of, two_of, word_of}
use Rattle.script_docs.specs.ScriptsMigration.{AreOldStepsOf, IsOldScriptDocument}
use Rattle.script_docs.specs.ScriptsMigration.{IsOldStepOf, OldScript}
use Rattle.script_docs.specs.ScriptsMigration.{migrated_script}
use Rattle.row_docs.specs.declared.kind.Kind.TheVariants as kind
use Rattle.row_docs.specs.declared.version.Version.TheVariants.{One}
use Rattle.script_docs.specs.declared.steps.Word.{Word}
use Rattle.script_docs.specs.declared.steps.Word.TheVariants.{Edit, Merge, Filter, Lookup, Cells}
use Rattle.script_docs.specs.declared.steps.Word.TheVariants.{Tell, Post, Deliver}
use Rattle.row_docs.proofs.ShapesMigrationLemmas.{cell_migrated}

abbrev NoEdit : Option StepText → Type 0
NoEdit o = (site : ℕ) (row : Row × Option (List (List ℕ))) → o ≡ Some (edit_step site row) → ⊥

one_by : (step : ℕ → StepText) → ((n : ℕ) → NoEdit (Some (step n))) → (o : Option ℕ)
    → NoEdit (option_map step o)
one_by step apart None site row is = cc
one_by step apart (Some n) site row is = apart n site row is

no_edit_one : (step : ℕ → StepText) → ((n : ℕ) → NoEdit (Some (step n))) → (ds : List Data)
    → NoEdit (one_of step ds)
no_edit_one step apart [] site row is = cc
no_edit_one step apart (d ∷ []) site row is = one_by step apart (u32_in d) site row is
no_edit_one step apart (d ∷ e ∷ ds) site row is = cc

two_by : (step : ℕ → ℕ → StepText) → ((m n : ℕ) → NoEdit (Some (step m n))) → (o p : Option ℕ)
    → NoEdit (option_and_then (λ m. option_map (λ n. step m n) p) o)
two_by step apart None p site row is = cc
two_by step apart (Some m) None site row is = cc
two_by step apart (Some m) (Some n) site row is = apart m n site row is

no_edit_two : (step : ℕ → ℕ → StepText) → ((m n : ℕ) → NoEdit (Some (step m n))) → (ds : List Data)
    → NoEdit (two_of step ds)
no_edit_two step apart [] site row is = cc
no_edit_two step apart (d ∷ []) site row is = cc
no_edit_two step apart (d ∷ e ∷ []) site row is =
    two_by step apart (u32_in d) (u32_in e) site row is
no_edit_two step apart (d ∷ e ∷ f ∷ ds) site row is = cc

four_by : {A B C : Type 0} (step : ℕ → A → B → C → StepText)
    → ((n : ℕ) (a : A) (b : B) (c : C) → NoEdit (Some (step n a b c)))
    → (o : Option ℕ) (p : Option A) (q : Option B) (r : Option C)
    → NoEdit
    (option_and_then
    (λ n. option_and_then (λ a. option_and_then (λ b. option_map (λ c. step n a b c) r) q)
    p) o)
four_by step apart None p q r site row is = cc
four_by step apart (Some n) None q r site row is = cc
four_by step apart (Some n) (Some a) None r site row is = cc
four_by step apart (Some n) (Some a) (Some b) None site row is = cc
four_by step apart (Some n) (Some a) (Some b) (Some c) site row is = apart n a b c site row is

no_edit_filter : (ds : List Data) → NoEdit (filter_of ds)
no_edit_filter (s ∷ i ∷ c ∷ f ∷ []) site row is =
    four_by filter_step (λ n a b c site row e. cc) (u32_in s) (as_str i) (scheme_in c) (as_str f)
    site row is
no_edit_filter ds site row is = cc

no_edit_lookup : (ds : List Data) → NoEdit (lookup_of ds)
no_edit_lookup (s ∷ i ∷ f ∷ l ∷ []) site row is =
    four_by lookup_step (λ n a b c site row e. cc) (u32_in s) (as_str i) (as_str f) (default_in l)
    site row is
no_edit_lookup ds site row is = cc

edit_word : (word : Word) (ds : List Data) (site : ℕ) (row : Row × Option (List (List ℕ)))
    → step_after One word ds ≡ Some (edit_step site row) → word ≡ Edit
edit_word Edit ds site row is = refl
edit_word Merge ds site row is =
    absurd (no_edit_two merge_step (λ m n site row e. cc) ds site row is)
edit_word Filter ds site row is = absurd (no_edit_filter ds site row is)
edit_word Lookup ds site row is = absurd (no_edit_lookup ds site row is)
edit_word Cells ds site row is = absurd (no_edit_one cells_step (λ n site row e. cc) ds site row is)
edit_word Tell ds site row is = absurd (no_edit_one tell_step (λ n site row e. cc) ds site row is)
edit_word Post ds site row is = absurd (no_edit_two post_step (λ m n site row e. cc) ds site row is)
edit_word Deliver ds site row is =
    absurd (no_edit_one deliver_step (λ n site row e. cc) ds site row is)

edit_by : (o : Option ℕ) (p : Option (Row × Option (List (List ℕ)))) (site : ℕ)
    (row : Row × Option (List (List ℕ)))
    → option_and_then (λ n. option_map (λ cell. edit_step n cell) p) o ≡ Some (edit_step site row)
    → (o ≡ Some site) × (p ≡ Some row)
edit_by None p site row is = absurd (cc)
edit_by (Some n) None site row is = absurd (cc)
edit_by (Some n) (Some cell) site row is = let place : n ≡ site = cc in
    let same : cell ≡ row = cc in (ap Some place, ap Some same)

edit_parts : (ds : List Data) (site : ℕ) (row : Row × Option (List (List ℕ)))
    → edit_of One ds ≡ Some (edit_step site row)
    → (place cell : Data) × (ds ≡ place ∷ cell ∷ []) × (u32_in place ≡ Some site)
    × (cell_in One cell ≡ Some row)
edit_parts (s ∷ c ∷ []) site row is = let both = edit_by (u32_in s) (cell_in One c) site row is in
    (s, c, refl, both.0, both.1)
edit_parts ds site row is = absurd (cc)

word_by : (a b c d e f g h : Bool)
    → (if a then Some Edit
    else (if b then Some Merge
    else (if c then Some Filter
    else (if d then Some Lookup
    else (if e then Some Cells
    else (if f then Some Tell
    else (if g then Some Post else (if h then Some Deliver else None))))))))
    ≡ Some Edit
    → a ≡ true
word_by true b c d e f g h is = refl
word_by false true c d e f g h is = cc
word_by false false true d e f g h is = cc
word_by false false false true e f g h is = cc
word_by false false false false true f g h is = cc
word_by false false false false false true g h is = cc
word_by false false false false false false true h is = cc
word_by false false false false false false false true is = cc
word_by false false false false false false false false is = cc

edit_text : (text : List ℕ) → word_of text ≡ Some Edit → text ≡ codes "edit"
edit_text text is = (bytes_eq-Decides text (codes "edit")).0 (word_by _ _ _ _ _ _ _ _ is)

-- the parts of a step that is an edit
abbrev EditParts : List Data → ℕ → Row × Option (List (List ℕ)) → Type 0
EditParts ds site row =
    (word place cell : Data) × (ds ≡ word ∷ place ∷ cell ∷ []) × (as_str word ≡ Some (codes "edit"))
    × (u32_in place ≡ Some site) × (cell_in One cell ≡ Some row)

edit_rest : (w : Data) (ds : List Data) (text : List ℕ) (o : Option Word) (site : ℕ)
    (row : Row × Option (List (List ℕ))) → as_str w ≡ Some text → word_of text ≡ o
    → option_and_then (λ word. step_after One word ds) o ≡ Some (edit_step site row)
    → EditParts (w ∷ ds) site row
edit_rest w ds text None site row spelled known is = absurd (cc)
edit_rest w ds text (Some word) site row spelled known is =
    let edit : word ≡ Edit = edit_word word ds site row is in
    let parts = edit_parts ds site row (rw edit at is) in (
      w,
      parts.0,
      parts.1,
      ap (λ t. w ∷ t) parts.2,
      spelled ∙ ap Some (edit_text text (known ∙ ap Some edit)),
      parts.3,
      parts.4,
    )

edit_spelled : (w : Data) (ds : List Data) (o : Option (List ℕ)) (site : ℕ)
    (row : Row × Option (List (List ℕ))) → as_str w ≡ o
    → option_and_then (λ text. option_and_then (λ word. step_after One word ds) (word_of text)) o
    ≡ Some (edit_step site row) → EditParts (w ∷ ds) site row
edit_spelled w ds None site row spelled is = absurd (cc)
edit_spelled w ds (Some text) site row spelled is =
    edit_rest w ds text (word_of text) site row spelled refl is

edit_listed : (ds : List Data) (site : ℕ) (row : Row × Option (List (List ℕ)))
    → step_of One ds ≡ Some (edit_step site row) → EditParts ds site row
edit_listed [] site row is = absurd (cc)
edit_listed (w ∷ ds) site row is = edit_spelled w ds (as_str w) site row refl is

edit_of_row : (d : Data) (o : Option (List Data)) (site : ℕ) (row : Row × Option (List (List ℕ)))
    → items_in d ≡ o → option_and_then (step_of One) o ≡ Some (edit_step site row)
    → (ds : List Data) × (items_in d ≡ Some ds) × EditParts ds site row
edit_of_row d None site row items is = absurd (cc)
edit_of_row d (Some ds) site row items is = (ds, items, edit_listed ds site row is)

step_migrated : (d : Data) (taken : StepType) → IsStep One d taken
    → (old : OldStep) × IsOldStepOf d old × (taken ≡ migrated_step old)
step_migrated d taken (edit_step site row, is, made) =
    let listed = edit_of_row d (items_in d) site row refl is in
    let parts = listed.2 in
    let old = cell_migrated parts.2 row parts.6 in (
      OldEdit site old.0,
      (parts.0, parts.1, parts.2, listed.1 ∙ ap Some parts.3, parts.4, parts.5, old.1),
      made ∙ ap (λ e. step.Edit site e) (sym old.2),
    )
step_migrated d taken (merge_step into source, is, made) = (OldMerge into source, is, made)
step_migrated d taken (filter_step site id scheme field, is, made) =
    (OldAskFilter site id scheme made.0, (field, is, made.1), made.2)
step_migrated d taken (lookup_step site id field default, is, made) = (
  OldAskLookup site id made.0 (option_map str_to_ascii_lowercase default),
  (field, default, is, made.1, refl),
  made.2,
)
step_migrated d taken (cells_step site, is, made) = (OldAskCells site, is, made)
step_migrated d taken (tell_step site, is, made) = (OldTell site, is, made)
step_migrated d taken (post_step site told, is, made) = (OldPost site told, is, made)
step_migrated d taken (deliver_step post, is, made) = (OldDeliver post, is, made)

steps_migrated : (ds : List Data) (steps : List StepType) → AreSteps One ds steps
    → (olds : List OldStep) × AreOldStepsOf ds olds × (steps ≡ migrated_steps olds)
steps_migrated [] [] are = ([], tt, refl)
steps_migrated [] (s ∷ ss) are = absurd are
steps_migrated (d ∷ ds) [] are = absurd are
steps_migrated (d ∷ ds) (s ∷ ss) are =
    let first = step_migrated d s are.0 in
    let rest = steps_migrated ds ss are.1 in (
      first.0 ∷ rest.0,
      (first.1, rest.1),
      ap (λ t. t ∷ ss) first.2 ∙ ap (λ t. migrated_step first.0 ∷ t) rest.2,
    )

-- a script is read as the migrated script that its document has
pub script_migrated : (d : Data) (script : ScriptState) → version_of d ≡ One
    → IsScriptDocument d script
    → (old : OldScript) × IsOldScriptDocument d old × (script ≡ migrated_script old)
script_migrated d script first reads =
    let steps = steps_migrated (rows_in kind.Script d) script.steps (rw first at reads.steps) in
    let old : OldScript = record { sites = script.sites; steps = steps.0 } in (
      old,
      record { sites = reads.sites; steps = steps.1 },
      ap (λ s. let r : ScriptState = record { sites = script.sites; steps = s } in r) steps.2,
    )
