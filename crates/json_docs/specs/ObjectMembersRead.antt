-- Which values are no objects, by their first token.
use Rattle.std.specs.Prelude.{◌≡◌, List, ◌∷◌, Bool, true, false}
use Rattle.json.specs.Token.{Token, begin_object, end_object, begin_array, end_array, key, string}
use Rattle.json.specs.Token.{number, boolean, null, bad}

-- no object comes first
abbrev pub NoObject : List Token → Type 0
NoObject old = (rest : List Token) → old ≡ begin_object ∷ rest → ⊥

-- the token is a value of its own
abbrev pub is_scalar : Token → Bool
is_scalar begin_object = false
is_scalar end_object = false
is_scalar begin_array = false
is_scalar end_array = false
is_scalar (key s) = false
is_scalar (string s) = true
is_scalar (number s) = true
is_scalar (boolean b) = true
is_scalar null = true
is_scalar bad = false
