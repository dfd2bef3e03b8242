-- The items of an array, read one after another.
use Rattle.std.specs.Prelude.{◌≡◌, ℕ, List, [], ◌∷◌, length, Option, None, Some}
use Rattle.json.specs.Json.{items, value}
use Rattle.json.specs.Token.{Token}
use Rattle.serde_json.specs.Data.{Data, Items}
use Rattle.serde_json.specs.Read.{converted, of_items}
use Rattle.json_docs.specs.FaultChecks.{Check}
use Rattle.json_docs.specs.ScanningArrays.{TakesRows}
use Rattle.json_docs.specs.declared.fault.DocCause.{DocCause}

-- after its opening bracket `old` is an array of these items, which nest at most this deep, and
-- then `new`
abbrev pub ReadsItems : ℕ → List Token → Items → List Token → Type 0
ReadsItems depth old ds new =
    converted of_items (items (value depth) (length old) old) ≡ Some (ds, new)

-- after its opening bracket `old` is no such array
abbrev pub ReadsNoItems : ℕ → List Token → Type 0
ReadsNoItems depth old = converted of_items (items (value depth) (length old) old) ≡ None

-- one row more: it is taken where none was refused before it
abbrev pub TakesNext : {S : Type 0} → (List Data → Data → List Check) → (S → List Data → Type 0)
    → List Data → Option DocCause → S → S → Option DocCause → Data → Type 0
TakesNext checks Holds before None old new next d = Holds old before
    → TakesRows checks Holds before new next (d ∷ [])
TakesNext checks Holds before (Some e) old new next d = next ≡ Some e
