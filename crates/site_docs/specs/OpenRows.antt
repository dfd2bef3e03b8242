-- The text of a document as far as some rows of its array.
use Rattle.std.specs.Prelude.{◌≡◌, ◌++◌, IsUtf8, List, false}
use Rattle.json.specs.Print.{print}
use Rattle.json.specs.Token.{Token}
use Rattle.serde_json.specs.Data.{Data}
use Rattle.site_docs.specs.Plain.{is_later, open_items}
use Rattle.site_docs.specs.declared.open_rows.OpenRows.{OpenRows}

-- these rows follow what the document begins with
pub record HoldsOpen (opening : List Token) (draft : OpenRows) (rows : List Data) : Type 0 where
  pub text : draft.bytes.items ≡ print opening ++ open_items false rows
  pub begun : IsUtf8 (print opening)
  pub utf8 : IsUtf8 (open_items false rows)
  pub has_rows : draft.has_rows ≡ is_later rows
