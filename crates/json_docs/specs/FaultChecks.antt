-- Tests in a stated order, and the first that fails. Project rule.
use Rattle.std.specs.Prelude.{◌≡◌, ◌⊎◌, ℕ, List, [], ◌∷◌, ◌++◌, None, Some, IsUtf8}
use Rattle.std.specs.Str.Lossy.{utf8_valid_len}
use Rattle.serde_json.specs.Data.{Data}
use Rattle.serde_json.specs.Read.{read}
use Rattle.json_docs.specs.declared.fault.DocCause.{DocCause}
use Rattle.json_docs.specs.declared.fault.DocCause.TheVariants.{NotUtf8, NotJson}

-- a test: what passes it, and for which cause it refuses the rest
pub record Check : Type 1 where
  pub passes : Type 0
  pub refuses : DocCause → Type 0

-- the test that this holds, with its one cause
abbrev pub check : Type 0 → DocCause → Check
check p cause = record { passes = p; refuses = λ e. (¬ p) × (e ≡ cause) }

-- all tests pass
abbrev pub AllPass : List Check → Type 0
AllPass [] = Unit {0}
AllPass (c ∷ cs) = c.passes × AllPass cs

-- the first test that fails refuses for e
abbrev pub FirstFails : List Check → DocCause → Type 0
FirstFails [] e = ⊥
FirstFails (c ∷ cs) e = c.refuses e ⊎ (c.passes × FirstFails cs e)

-- the tests of rows in their order, each after the rows before it
abbrev pub rows_checks : (List Data → Data → List Check) → List Data → List Data → List Check
rows_checks checks before [] = []
rows_checks checks before (d ∷ ds) = checks before d ++ rows_checks checks (before ++ d ∷ []) ds

-- ---- out of memory

-- what this relation refuses for, or this fault, which is out of memory: memory may run out before
-- any refusal is known, and that says nothing of what is read
abbrev pub OrMemory : {F : Type 0} → F → (F → Type 0) → F → Type 0
OrMemory memory Refuses fault = (fault ≡ memory) ⊎ Refuses fault

-- ---- the text of a document

-- the bytes are UTF-8, and the JSON text of this data
abbrev pub AreJson : List ℕ → Data → Type 0
AreJson bytes d = IsUtf8 bytes × (read bytes ≡ Some d)

-- the bytes are no JSON text, for the cause e
abbrev pub IsTextRefusal : List ℕ → DocCause → Type 0
IsTextRefusal bytes e =
    ((¬ (IsUtf8 bytes)) × (e ≡ NotUtf8 (utf8_valid_len bytes)))
    ⊎ (IsUtf8 bytes × (read bytes ≡ None) × (e ≡ NotJson))

-- the bytes are refused for e, where these are the tests of JSON data
abbrev pub IsRefusal : (Data → List Check) → List ℕ → DocCause → Type 0
IsRefusal checks bytes e =
    IsTextRefusal bytes e ⊎ ((d : Data) × AreJson bytes d × FirstFails (checks d) e)
