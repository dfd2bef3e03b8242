-- Documents of summaries in the form in which they are written, and their rows. Project rule.
use Rattle.std.specs.Prelude.{ℕ, List}
use Rattle.serde_json.specs.View.{items_of}
use Rattle.serde_json.specs.Data.{array}
use Rattle.serde_json.specs.Written.{compact_text}
use Rattle.cata_core.specs.Delta.{Stamps}
use Rattle.row_docs.specs.Entries.{stamps_values}

-- the array of the rows
abbrev pub stamps_text : Stamps → List ℕ
stamps_text stamps = compact_text (array (items_of (stamps_values stamps)))
