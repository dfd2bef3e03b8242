-- Parts of JSON data: items, numbers and texts.
use Rattle.std.specs.Prelude.{ℕ, ◌^◌, List, [], ◌∷◌, Option, None, Some, nat_lt, if◌then◌else◌}
use Rattle.std.specs.Prelude.{option_map, option_and_then}
use Rattle.serde_json.specs.Data.{Data, Items, no_items, item}
use Rattle.serde_json.specs.Find.{as_array, as_number, as_str, as_u64}

-- the items of an array, as a list
abbrev pub list_of : Items → List Data
list_of no_items = []
list_of (item d ds) = d ∷ list_of ds

-- the items of an array; none of any other data
abbrev pub items_in : Data → Option (List Data)
items_in d = option_map list_of (as_array d)

-- a number that is unsigned, whole and below 2 ^ 64; none of any other data
abbrev pub u64_in : Data → Option ℕ
u64_in d = option_and_then as_u64 (as_number d)

-- a number that fits 32 bits
abbrev pub narrowed : ℕ → Option ℕ
narrowed n = if nat_lt n (2 ^ 32) then Some n else None

-- such a number below 2 ^ 32
abbrev pub u32_in : Data → Option ℕ
u32_in d = option_and_then narrowed (u64_in d)

-- texts and nothing else
abbrev pub texts_in : List Data → Option (List (List ℕ))
texts_in [] = Some []
texts_in (d ∷ ds) =
    option_and_then (λ text. option_map (λ texts. text ∷ texts) (texts_in ds)) (as_str d)
