-- One JSON value of a text, and what it leaves.
use Rattle.std.specs.Prelude.{◌≡◌, ℕ, List, [], ◌∷◌, true, Some, is_some, unwrap_or}
use Rattle.json.specs.Json.{Json, value}
use Rattle.json.specs.Token.{Token}
use Rattle.json.specs.Value.{value_view}
use Rattle.json.specs.declared.value.Value.{Value}
use Rattle.serde_json.specs.Data.{Data, null}
use Rattle.serde_json.specs.Read.{converted, of_json}

-- all its numbers are in range
abbrev pub IsRead : Json → Type 0
IsRead j = is_some (of_json j) ≡ true

-- the data of a value whose numbers are in range
abbrev pub data_of : Json → Data
data_of j = unwrap_or (of_json j) null

-- the data of a value
abbrev pub seen : {A : Type 0} → Value A → Data
seen v = data_of (value_view v)

-- the tokens `old` are those of d, which nests at most this deep, and then `new`
abbrev pub Reads : ℕ → List Token → Data → List Token → Type 0
Reads depth old d new = converted of_json (value depth old) ≡ Some (d, new)

-- all numbers of these values are in range
abbrev pub AreRead : {A : Type 0} → List (Value A) → Type 0
AreRead [] = Unit {0}
AreRead (v ∷ vs) = IsRead (value_view v) × AreRead vs
