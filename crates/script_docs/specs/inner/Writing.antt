-- A draft of the document of a script, row after row.
use Rattle.std.specs.Prelude.{◌≡◌, ℕ, List, [], ◌∷◌, codes, decimal, map}
use Rattle.cata_core.specs.declared.step.Step.{Step}
use Rattle.json.specs.Token.{begin_object, begin_array, key, number as number_token}
use Rattle.json.specs.Token.{string as string_token}
use Rattle.json.specs.Written.{Written}
use Rattle.serde_json.specs.Data.{Data}
use Rattle.row_docs.specs.inner.WritingTexts.{row_tokens}
use Rattle.script_docs.specs.Steps.{StepText}
use Rattle.script_docs.specs.StepsWritten.{step_value}
use Rattle.script_docs.specs.inner.StepsWritten.{IsRowOf}

-- a script's draft with this number of sites: it is open after these rows
abbrev pub HoldsSteps : Written → ℕ → List Data → Type 0
HoldsSteps draft sites rows =
    (draft.before ≡ [])
    × (draft.tokens
    ≡ begin_object ∷ key (codes "kind") ∷ string_token (codes "script") ∷ key (codes "sites")
    ∷ number_token (decimal sites) ∷ key (codes "steps") ∷ begin_array ∷ row_tokens rows)

-- each text is that of the step at its place
abbrev pub AreRowsOf : List StepText → List Step → Type 0
AreRowsOf [] [] = Unit {0}
AreRowsOf [] (step ∷ steps) = ⊥
AreRowsOf (text ∷ texts) [] = ⊥
AreRowsOf (text ∷ texts) (step ∷ steps) = IsRowOf text step × AreRowsOf texts steps

-- a script's draft has a row for each of these steps
abbrev pub HasRows : Written → ℕ → List Step → Type 0
HasRows draft sites steps =
    (texts : List StepText) × AreRowsOf texts steps × HoldsSteps draft sites (map step_value texts)
