-- What a reader answers on the bytes of a document, and how it names a refusal.
use Rattle.std.specs.Prelude.{◌≡◌, ℕ, List}
use Rattle.serde_json.specs.Data.{Data}
use Rattle.json_docs.specs.FaultChecks.{AllPass, AreJson, Check}
use Rattle.json_docs.specs.Faults.{of_document, of_no_document}
use Rattle.json_docs.specs.declared.fault.DocCause.{DocCause}
use Rattle.json_docs.specs.declared.fault.DocCause.TheVariants.{NoMemory}
use Rattle.json_docs.specs.declared.fault.DocFault.{DocFault}

-- the bytes are a document that passes all tests, and its parts are those of x
abbrev pub Reads : {X : Type 0} → (Data → List Check) → (Data → X → Type 0) → List ℕ → X → Type 0
Reads checks Is bytes x = (d : Data) × AreJson bytes d × AllPass (checks d) × Is d x

-- it is the refusal of this input document by its reader
abbrev pub IsOfDocument : ℕ → (DocCause → Type 0) → DocFault → Type 0
IsOfDocument document Refuses fault = (cause : DocCause) × Refuses cause
    × (fault ≡ of_document document cause)

-- 26, which means no document
abbrev pub no_memory : DocFault
no_memory = of_no_document NoMemory
