-- The text of an array of rows.
use Rattle.std.specs.Prelude.{ℕ, List}
use Rattle.serde_json.specs.Data.{array}
use Rattle.serde_json.specs.View.{items_of}
use Rattle.serde_json.specs.Written.{compact_text}
use Rattle.catalogue.specs.Entries.{Entries}
use Rattle.row_docs.specs.Entries.{cells_values}

-- the array of the rows
abbrev pub rows_text : Entries → List ℕ
rows_text cells = compact_text (array (items_of (cells_values cells)))
