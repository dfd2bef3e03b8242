-- Values, cut as they are read.
use Rattle.std.specs.Prelude.{ℕ, Bool, ◌||◌, ◌&&◌, nat_lt, Option, None, Some}
use Rattle.json.specs.Json as json
use Rattle.json.specs.Json.{Json}
use Rattle.json.specs.Token as token
use Rattle.json.specs.Token.{Token}

-- the value that a token is by itself; none of any other token
abbrev pub scalar_in : Token → Option Json
scalar_in token.begin_object = None
scalar_in token.end_object = None
scalar_in token.begin_array = None
scalar_in token.end_array = None
scalar_in (token.key s) = None
scalar_in (token.string s) = Some (json.string s)
scalar_in (token.number s) = Some (json.number s)
scalar_in (token.boolean b) = Some (json.boolean b)
scalar_in token.null = Some json.null
scalar_in token.bad = None

-- ---- what is kept of a value

-- whether an array of a row may have one item more, after so many that are texts or not
abbrev pub has_room : ℕ → Bool → Bool → Bool
has_room count are_texts is_text = nat_lt count 6 || (are_texts && is_text)
