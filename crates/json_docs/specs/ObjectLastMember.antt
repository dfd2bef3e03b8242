-- Members of an object that have one name.
use Rattle.std.specs.Prelude.{◌≢◌, ℕ, List}
use Rattle.json.specs.Json as json

-- no member has the name
abbrev pub HasNo : List ℕ → json.Members → Type 0
HasNo name json.no_members = Unit {0}
HasNo name (json.member other value members) = (other ≢ name) × HasNo name members

-- some members, and then others
abbrev pub and_then : json.Members → json.Members → json.Members
and_then json.no_members after = after
and_then (json.member name value before) after = json.member name value (and_then before after)
