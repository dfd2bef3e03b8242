-- What is written, without where it lies in memory.
use Rattle.std.specs.Prelude.{List, [], ◌∷◌, decimal}
use Rattle.json.specs.Token.{Token, number, string}
use Rattle.row_docs.specs.EntriesValues.{Row}
use Rattle.row_docs.specs.declared.writing.WrittenRow.{WrittenRow}

-- the row with the bytes of its texts
abbrev pub row_of : WrittenRow → Row
row_of row = record {
  id = row.id.now;
  language = row.language.now;
  time = row.time;
  site = row.site.now;
  count = row.count;
}

-- the tokens of a key and a stamp
abbrev pub parts_tokens : Row → List Token
parts_tokens row =
    string row.id ∷ string row.language ∷ number (decimal row.time) ∷ string row.site
    ∷ number (decimal row.count) ∷ []
