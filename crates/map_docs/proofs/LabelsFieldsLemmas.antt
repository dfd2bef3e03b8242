-- Refusals of the strings of a key.
use Rattle.std.proofs.Common.{◌≡◌, ◌<◌, ℕ, List, [], ◌∷◌, length, arith}
use Rattle.std.proofs.lemmas.Bool.Decides.{nat_tests}
use Rattle.std.specs.Prelude.{◌⊎◌, ◌==◌, false}
use Rattle.cell_core.specs.Fault.{RefusesLabel}
use Rattle.cell_core.specs.declared.fault.CellFault.{CellFault}
use Rattle.json_docs.specs.declared.fault.DocCause.TheVariants.{NoMemory as no_memory}
use Rattle.row_docs.specs.Fields.{cell_cause}
use Rattle.map_docs.specs.LabelsChecks.{IsStringsRefusal}
use Rattle.row_docs.proofs.FieldsLemmas.{label_cause}

-- a number that is not 0 is above 0
pub some_strings : (n : ℕ) → (n == 0) ≡ false → 0 < n
some_strings n h = grind (arith, nat_tests)

-- the same of strings, of which there are some
pub strings_cause : (k : ℕ) (texts : List (List ℕ)) (fault : CellFault) → 0 < length texts
    → RefusesLabel texts fault
    → (cell_cause k fault ≡ no_memory) ⊎ IsStringsRefusal k texts (cell_cause k fault)
strings_cause k [] fault some why = absurd (omega (arith, some))
strings_cause k (t ∷ ts) fault some why = label_cause k (t ∷ ts) fault why
