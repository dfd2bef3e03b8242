-- Which numbers are read (RFC 8259, section 6, within the range of a float).
use Rattle.std.specs.Prelude.{List, Bool, true, is_some}
use Rattle.std.specs.List.{list_all}
use Rattle.json.specs.Token.{Token, begin_object, end_object, begin_array, end_array, key, string}
use Rattle.json.specs.Token.{number, boolean, null, bad}
use Rattle.serde_json.specs.Read.{number_of}

-- a token that is no number, or a number that is in range
abbrev pub is_token_in_range : Token → Bool
is_token_in_range begin_object = true
is_token_in_range end_object = true
is_token_in_range begin_array = true
is_token_in_range end_array = true
is_token_in_range (key s) = true
is_token_in_range (string s) = true
is_token_in_range (number s) = is_some (number_of s)
is_token_in_range (boolean b) = true
is_token_in_range null = true
is_token_in_range bad = true

-- all numbers of a text's tokens are in range
abbrev pub are_in_range : List Token → Bool
are_in_range tokens = list_all is_token_in_range tokens
