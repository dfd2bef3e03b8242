-- The tokens of rows.
use Rattle.std.specs.Prelude.{List, [], ◌∷◌, ◌++◌}
use Rattle.json.specs.Token.{Token}
use Rattle.serde_json.specs.Data.{Data}
use Rattle.row_docs.specs.WritingTexts.{value_tokens}

-- the tokens of some values, one after another
abbrev pub row_tokens : List Data → List Token
row_tokens [] = []
row_tokens (d ∷ ds) = value_tokens d ++ row_tokens ds
