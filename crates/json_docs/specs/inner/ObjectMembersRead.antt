-- The members of an object, read one after another.
use Rattle.std.specs.Prelude.{◌≡◌, ◌⊎◌, ◌<◌, ℕ, List, ◌∷◌, true, length, None, Some}
use Rattle.json.specs.Json.{members, value}
use Rattle.json.specs.Token.{Token}
use Rattle.serde_json.specs.Data.{Data, Members, no_members}
use Rattle.serde_json.specs.Read.{converted, of_json, of_members}
use Rattle.json_docs.specs.Numbers.{are_in_range}
use Rattle.json_docs.specs.ScanningReads.{Reads}
use Rattle.json_docs.specs.declared.fault.DocCause.{DocCause}
use Rattle.json_docs.specs.declared.fault.DocCause.TheVariants.{NotJson}

-- the next member was read, which nests at most 126 deep
pub record ReadsNext (old : List Token) (d : Data) (new : List Token) : Type 0 where
  pub read : Reads 126 old d new
  pub left : are_in_range new ≡ true
  pub shorter : length new < length old

-- there is no next value that nests at most this deep
abbrev pub ReadsNone : ℕ → List Token → DocCause → Type 0
ReadsNone depth old e = (e ≡ NotJson) × (converted of_json (value depth old) ≡ None)

-- after its brace `old` is an object of these members, which nest at most this deep, and then
-- `new`
abbrev pub ReadsMembers : ℕ → List Token → Members → List Token → Type 0
ReadsMembers depth old ms new =
    converted (λ ms. of_members ms no_members) (members (value depth) (length old) old)
    ≡ Some (ms, new)

-- after its brace `old` is no such object
abbrev pub ReadsNoMembers : ℕ → List Token → Type 0
ReadsNoMembers depth old =
    converted (λ ms. of_members ms no_members) (members (value depth) (length old) old) ≡ None

-- after its brace `old` is no such object that nothing follows
abbrev pub IsNotWhole : List Token → Type 0
IsNotWhole old =
    ReadsNoMembers 126 old
    ⊎ ((ms : Members) × (t : Token) × (rest : List Token) × ReadsMembers 126 old ms (t ∷ rest))
