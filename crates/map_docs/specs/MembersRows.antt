-- What a language-map document says: its rows, in the order of its members (JSON-LD 1.1, section
-- 9.8).
use Rattle.std.specs.Prelude.{ℕ, Bool, true, false, List, [], ◌∷◌, Option, None, Some}
use Rattle.std.specs.Prelude.{if◌then◌else◌, option_map}
use Rattle.std.specs.List.{filter_map, list_all}
use Rattle.serde_json.specs.Data.{Data, null, boolean, number, string, array, object, Members}
use Rattle.serde_json.specs.Data.{no_members, member}
use Rattle.serde_json.specs.Find.{as_object, as_str}
use Rattle.json_docs.specs.Parts.{list_of}

-- the strings of a value, or none where it has not the shape of a label
abbrev pub Strings : Type 0
Strings = Option (List (List ℕ))

-- the keys of a language map with their values
abbrev pub Keys : Type 0
Keys = List (List ℕ × Strings)

-- the members of the document: names with language maps, or with none where the value is no object
abbrev pub Rows : Type 0
Rows = List (List ℕ × Option Keys)

-- whether a value is a string or null, as an item of a label may be
abbrev pub is_string_or_null : Data → Bool
is_string_or_null null = true
is_string_or_null (boolean b) = false
is_string_or_null (number n) = false
is_string_or_null (string s) = true
is_string_or_null (array ds) = false
is_string_or_null (object ms) = false

-- the strings of an array of strings and nulls
abbrev pub strings_of : List Data → Strings
strings_of ds = if list_all is_string_or_null ds then Some (filter_map as_str ds) else None

-- a string, null, or an array of strings and nulls; nulls are skipped
abbrev pub strings_in : Data → Strings
strings_in null = Some []
strings_in (boolean b) = None
strings_in (number n) = None
strings_in (string s) = Some (s ∷ [])
strings_in (array ds) = strings_of (list_of ds)
strings_in (object ms) = None

-- the names of members, each with what its value is
abbrev pub members_by : {X : Type 0} → (Data → X) → Members → List (List ℕ × X)
members_by of no_members = []
members_by of (member k d ms) = (k, of d) ∷ members_by of ms

-- the keys of a language map, each with its strings
abbrev pub keys_of : Members → Keys
keys_of = members_by strings_in

-- a language map is an object
abbrev pub keys_in : Data → Option Keys
keys_in d = option_map keys_of (as_object d)

-- the members of the document: messages with their language maps
abbrev pub message_rows : Members → Rows
message_rows = members_by keys_in

-- the document is an object
abbrev pub message_rows_in : Data → Option Rows
message_rows_in d = option_map message_rows (as_object d)
