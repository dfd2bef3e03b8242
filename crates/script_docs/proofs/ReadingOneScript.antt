-- A text reads as one script at most.
use Rattle.std.proofs.Common.{◌≡◌, ◌∙◌, ℕ, List, [], ◌∷◌, refl, ap, ap₂, sym, subst}
use Rattle.std.specs.Prelude.{option_map}
use Rattle.std.specs.Str.{str_to_ascii_lowercase}
use Rattle.serde_json.specs.Data.{Data}
use Rattle.cata_core.specs.declared.step.Step.{Step}
use Rattle.cata_core.specs.declared.step.Step.TheVariants.{AskFilter, AskLookup}
use Rattle.list_core.specs.declared.field.Malformed.TheVariants.{Refused}
use Rattle.list_core.specs.declared.scheme.Scheme.TheVariants.{Basic}
use Rattle.list_core.proofs.FieldUnique.{one_items}
use Rattle.row_docs.specs.declared.version.Version.{Version}
use Rattle.row_docs.proofs.OneReading.{one_read}
use Rattle.script_docs.specs.Reading.{IsScriptDocument, ReadsAsScript, script_checks}
use Rattle.script_docs.specs.Scripts.{ScriptState}
use Rattle.script_docs.specs.StepFields.{AreSteps, IsStep, Makes}
use Rattle.script_docs.specs.Steps.{StepText, edit_step, merge_step, filter_step, lookup_step}
use Rattle.script_docs.specs.Steps.{cells_step, tell_step, post_step, deliver_step}
use Rattle.catalogue.proofs.Basics.{some_same as inside}

one_made : (text : StepText) (s t : Step) → Makes text s → Makes text t → s ≡ t
one_made (edit_step site row) s t p q = p ∙ sym q
one_made (merge_step into source) s t p q = p ∙ sym q
one_made (filter_step site id scheme field) s t p q =
    let same : p.0 ≡ q.0 = one_items scheme Refused field p.0 q.0 p.1.1 q.1.1 in
    p.2 ∙ ap (λ items. AskFilter site id scheme items) same ∙ sym q.2
one_made (lookup_step site id field default) s t p q =
    let same : p.0 ≡ q.0 = one_items Basic Refused field p.0 q.0 p.1.1 q.1.1 in
    p.2 ∙ ap (λ items. AskLookup site id items (option_map str_to_ascii_lowercase default)) same
    ∙ sym q.2
one_made (cells_step site) s t p q = p ∙ sym q
one_made (tell_step site) s t p q = p ∙ sym q
one_made (post_step site told) s t p q = p ∙ sym q
one_made (deliver_step post) s t p q = p ∙ sym q

one_step : (version : Version) (d : Data) (s t : Step) → IsStep version d s → IsStep version d t
    → s ≡ t
one_step version d s t p q =
    let same : q.0 ≡ p.0 = inside q.0 p.0 (sym q.1 ∙ p.1) in
    one_made p.0 s t p.2 (subst (λ text. Makes text t) same q.2)

one_list_of_steps : (version : Version) (rows : List Data) (ss ts : List Step)
    → AreSteps version rows ss → AreSteps version rows ts → ss ≡ ts
one_list_of_steps version [] [] [] p q = refl
one_list_of_steps version [] [] (t ∷ ts) p q = absurd q
one_list_of_steps version [] (s ∷ ss) ts p q = absurd p
one_list_of_steps version (d ∷ ds) [] ts p q = absurd p
one_list_of_steps version (d ∷ ds) (s ∷ ss) [] p q = absurd q
one_list_of_steps version (d ∷ ds) (s ∷ ss) (t ∷ ts) p q =
    ap₂ (λ z zs. z ∷ zs) (one_step version d s t p.0 q.0)
    (one_list_of_steps version ds ss ts p.1 q.1)

script_is : (d : Data) (s t : ScriptState) → IsScriptDocument d s → IsScriptDocument d t → s ≡ t
script_is d s t p q =
    ap₂ (λ (n : ℕ) (steps : List Step). let r : ScriptState = record { sites = n; steps = steps } in
    r)
    (inside s.sites t.sites (sym p.sites ∙ q.sites))
    (one_list_of_steps _ _ s.steps t.steps p.steps q.steps)

-- a text reads as one script at most
pub one_script : (bytes : List ℕ) (s t : ScriptState) → ReadsAsScript bytes s
    → ReadsAsScript bytes t → s ≡ t
one_script = one_read script_checks IsScriptDocument script_is
