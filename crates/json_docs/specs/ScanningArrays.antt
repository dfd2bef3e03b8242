-- The rows of an array, taken one after another as they are read.
use Rattle.std.specs.Prelude.{List, ◌++◌, Option, None, Some}
use Rattle.serde_json.specs.Data.{Data}
use Rattle.json_docs.specs.FaultChecks.{AllPass, Check, FirstFails, rows_checks}
use Rattle.json_docs.specs.declared.fault.DocCause.{DocCause}

-- after these rows all of ds pass and are held too, or the first test that fails refuses for e
abbrev pub TakesRows : {S : Type 0} → (List Data → Data → List Check) → (S → List Data → Type 0)
    → List Data → S → Option DocCause → List Data → Type 0
TakesRows checks Holds before new None ds =
    AllPass (rows_checks checks before ds) × Holds new (before ++ ds)
TakesRows checks Holds before new (Some e) ds = FirstFails (rows_checks checks before ds) e
