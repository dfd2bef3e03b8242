-- A script that was written reads as it was.
use Rattle.std.proofs.Common.{◌≡◌, ◌∙◌, ◌+◌, ◌<◌, ◌^◌, ◌++◌, ℕ, List, [], ◌∷◌, true}
use Rattle.std.proofs.Common.{codes, decimal, get_or, inl, inr, length, map, refl, ap, subst}
use Rattle.std.proofs.Common.{sym, take, arith}
use Rattle.std.specs.Prelude.{◌&&◌, All, IsUtf8, Some, nat_le}
use Rattle.std.specs.Str.{bytes_eq}
use Rattle.std.proofs.lemmas.Bool.Decides.{nat_tests}
use Rattle.std.proofs.lemmas.List.{map-append, take_more}
use Rattle.std.proofs.lemmas.List.Elements.{All-cons, All-nil}
use Rattle.std.proofs.lemmas.Option.{slice_get-get_or}
use Rattle.cata_core.specs.declared.step.Step.{Step}
use Rattle.json.specs.Print.{print}
use Rattle.json.specs.Token.{begin_object, begin_array, end_array, key, number, string}
use Rattle.json.specs.Written.{Written}
use Rattle.json.proofs.Printed.Decimals.{IsNumber-decimal}
use Rattle.serde_json.specs.Data.{Data}
use Rattle.serde_json.proofs.Numbers.{number_of-decimal}
use Rattle.json_docs.specs.FaultChecks.{AllPass, Check, rows_checks}
use Rattle.json_docs.specs.declared.fault.DocCause.{DocCause}
use Rattle.row_docs.specs.inner.WritingEnvelope.{version_tokens}
use Rattle.row_docs.specs.Kinds.{names_of}
use Rattle.row_docs.specs.Headers.{HasJust, header_checks, rows_in, subject_data, version_of}
use Rattle.row_docs.specs.WritingTexts.{Adds, text, value_tokens}
use Rattle.row_docs.specs.declared.kind.Kind.TheVariants.{Script}
use Rattle.script_docs.specs.Reading.{ReadsAsScript, sites_check}
use Rattle.script_docs.specs.Writing.{IsFirstUnwritable, RefusesWriting, script_value}
use Rattle.script_docs.specs.inner.Writing.{AreRowsOf, HasRows, HoldsSteps}
use Rattle.script_docs.specs.Scripts.{IsSiteCount, ScriptState}
use Rattle.script_docs.specs.StepFields.{step_checks}
use Rattle.script_docs.specs.Steps.{StepText}
use Rattle.script_docs.specs.StepsWritten.{IsWritableStep, step_value}
use Rattle.script_docs.specs.inner.StepsWritten.{RefusesStep, WritesStep}
use Rattle.json_docs.proofs.FaultChecksLemmas.{AllPass-both}
use Rattle.row_docs.proofs.HeadersLemmas.{in_turn, some_member}
use Rattle.row_docs.proofs.WritingTextsLemmas.{printed, row_tokens-push, rows_member}
use Rattle.row_docs.proofs.EntriesWrittenRows.{list_of-items_of}
use Rattle.row_docs.proofs.EntriesWrittenTexts.{read-text}
use Rattle.script_docs.proofs.StepsWrittenLemmas.{rows_push, rows_sound, steps_again, steps_pass}
use Rattle.script_docs.proofs.StepsWrittenLemmas.{writable_of}

-- ---- the draft

adds_row : (a b : Written) (sites : ℕ) (rows : List Data) (d : Data) → HoldsSteps a sites rows
    → Adds a b (value_tokens d) → HoldsSteps b sites (rows ++ d ∷ [])
adds_row a b sites rows d holds adds = (
  adds.0 ∙ holds.0,
  adds.1 ∙ (ap (λ t. t ++ value_tokens d) holds.1
      ∙ ap (λ t. begin_object ∷ key (codes "kind") ∷ string (codes "script") ∷ key (codes "sites")
      ∷ number (decimal sites) ∷ key (codes "steps") ∷ begin_array ∷ t)
      (sym (row_tokens-push rows d))),
)

-- a row more
pub row_more : (a b : Written) (sites : ℕ) (steps : List Step) (k : ℕ) (step : Step)
    → k < length steps → step ≡ get_or steps k step → HasRows a sites (take k steps)
    → WritesStep step a b → HasRows b sites (take (k + 1) steps)
row_more a b sites steps k step within is held wrote =
    let taken : take (k + 1) steps ≡ take k steps ++ step ∷ [] =
    take_more steps k step within ∙ ap (λ (s : Step). take k steps ++ s ∷ []) (sym is) in (
      held.0 ++ wrote.0 ∷ [],
      subst (AreRowsOf (held.0 ++ wrote.0 ∷ [])) (sym taken)
          (rows_push held.0 (take k steps) wrote.0 step held.1 wrote.1),
      subst (HoldsSteps b sites) (sym (map-append step_value held.0 (wrote.0 ∷ [])))
          (adds_row a b sites (map step_value held.0) (step_value wrote.0) held.2 wrote.2),
    )

all_writable : (texts : List StepText) (steps : List Step) → AreRowsOf texts steps
    → All IsWritableStep steps
all_writable [] [] rows = All-nil IsWritableStep
all_writable [] (s ∷ ss) rows = absurd rows
all_writable (t ∷ ts) [] rows = absurd rows
all_writable (t ∷ ts) (s ∷ ss) rows =
    All-cons IsWritableStep s ss (writable_of t s rows.0) (all_writable ts ss rows.1)

-- the step after these rows is the first that is not writable
first_unwritable : (a : Written) (sites : ℕ) (steps : List Step) (k : ℕ) (step : Step)
    → k < length steps → step ≡ get_or steps k step → HasRows a sites (take k steps)
    → ¬ IsWritableStep step → IsFirstUnwritable steps k
first_unwritable a sites steps k step within is held refused = record {
  step = step;
  there = slice_get-get_or steps k step within ∙ ap Some (sym is);
  before = all_writable held.0 (take k steps) held.1;
  refused = refused;
}

-- why its row is not written is why the script is not
pub writing_refused : (a : Written) (sites : ℕ) (steps : List Step) (k : ℕ) (step : Step)
    (cause : DocCause) → k < length steps → step ≡ get_or steps k step
    → HasRows a sites (take k steps) → RefusesStep k step cause → RefusesWriting steps cause
writing_refused a sites steps k step cause within is held refused = elim refused [
  | inl none ↦ inl none
  | inr x ↦ inr (k, first_unwritable a sites steps k step within is held x.0, x.1)
]

-- the closed draft is the text of the script
pub script_closed : (draft : Written) (sites : ℕ) (rows : List Data) → HoldsSteps draft sites rows
    → draft.before ++ (print (draft.tokens ++ end_array ∷ version_tokens) ++ 10 ∷ [])
    ≡ text (script_value sites rows)
script_closed draft sites rows holds =
    ap (λ b. b ++ (print (draft.tokens ++ end_array ∷ version_tokens) ++ 10 ∷ [])) holds.0
    ∙ printed (draft.tokens ++ end_array ∷ version_tokens) (script_value sites rows)
    (ap (λ t. t ++ end_array ∷ version_tokens) holds.1
    ∙ ap (λ t. begin_object ∷ key (codes "kind") ∷ string (codes "script") ∷ key (codes "sites")
    ∷ number (decimal sites) ∷ key (codes "steps") ∷ begin_array ∷ t)
    (sym (rows_member rows version_tokens)))

-- ---- members by their names

script_names : (sites : ℕ) (rows : List Data) → HasJust (names_of Script) (script_value sites rows)
script_names sites rows q =
    rw (
      some_member q (codes "kind"),
      some_member q (codes "sites"),
      some_member q (codes "steps"),
      some_member q (codes "version"),
    )
    (in_turn (bytes_eq q (codes "kind")) (bytes_eq q (codes "sites")) (bytes_eq q (codes "steps"))
    (bytes_eq q (codes "version")))

-- ---- the document

few : (sites : ℕ) → IsSiteCount sites → sites < 2 ^ 64
few sites h = omega (arith, h.1)

-- a count that may be is the count
counted : (sites : ℕ) → IsSiteCount sites → (nat_le 1 sites && nat_le sites 1024) ≡ true
counted sites h =
    let low : nat_le 1 sites ≡ true = grind (arith, nat_tests, h.0) in
    let most : nat_le sites 1024 ≡ true = grind (arith, nat_tests, h.1) in
    rw (low, most) refl

two : 2 < 2 ^ 64
two = omega arith

abbrev rest_checks : Data → List Check
rest_checks d =
    sites_check (subject_data Script d)
    ∷ rows_checks (step_checks (version_of d)) [] (rows_in Script d)

-- the text of a script reads as it
pub script_again : (script : ScriptState) (texts : List StepText) → IsSiteCount script.sites
    → AreRowsOf texts script.steps
    → IsUtf8 (text (script_value script.sites (map step_value texts)))
    → ReadsAsScript (text (script_value script.sites (map step_value texts))) script
script_again script texts count held utf8 =
    let d = script_value script.sites (map step_value texts) in
    let rows = rows_sound texts script.steps held in
    let small = few script.sites count in
    let head : AllPass (header_checks Script d) = (
      (refl, refl),
      (inr refl, ((script_names script.sites (map step_value texts), refl), tt)),
    ) in
    let rest : AllPass (rest_checks d) = (
      rw (counted script.sites count) refl,
      rw (list_of-items_of (map step_value texts)) (steps_pass [] texts script.steps held),
    ) in (
      d,
      (
        utf8,
        read-text d (
          tt,
          (IsNumber-decimal script.sites small, (rows.numbers, (IsNumber-decimal 2 two, tt))),
        )
            (omega (arith, rows.shallow))
            (rw (number_of-decimal script.sites small, rows.back, number_of-decimal 2 two) refl),
      ),
      AllPass-both (header_checks Script d) (rest_checks d) head rest,
      record {
        sites = rw (counted script.sites count) refl;
        steps =
            rw (list_of-items_of (map step_value texts)) (steps_again texts script.steps held);
      },
    )
