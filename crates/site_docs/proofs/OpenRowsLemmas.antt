-- Rows that are added to the text of a document.
use Rattle.std.proofs.Common.{◌≡◌, ◌∙◌, ◌++◌, [], ◌∷◌, ℕ, Bool, List, ap, ap₂, append-nil}
use Rattle.std.proofs.Common.{append_assoc, false, refl, subst, sym, true}
use Rattle.std.proofs.lemmas.Str.{IsUtf8-append}
use Rattle.std.specs.Prelude.{IsUtf8}
use Rattle.json.proofs.Printed.Utf8.{IsUtf8-are_ascii}
use Rattle.json.specs.Print.{print}
use Rattle.json.specs.Token.{Token}
use Rattle.serde_json.specs.Data.{Data}
use Rattle.serde_json.specs.Written.{comma_if, compact_text}
use Rattle.site_docs.specs.OpenRows.{HoldsOpen}
use Rattle.site_docs.specs.Plain.{is_later, open_items}
use Rattle.site_docs.specs.declared.open_rows.OpenRows.{OpenRows}
use Rattle.site_docs.proofs.PlainLemmas.{open_more}

-- a comma is UTF-8
comma_utf8 : (b : Bool) → IsUtf8 (comma_if b)
comma_utf8 true = IsUtf8-are_ascii (44 ∷ []) refl
comma_utf8 false = IsUtf8-are_ascii [] refl

-- the text of one row is that of its value
pub one_row : (d : Data) → compact_text d ≡ open_items false (d ∷ [])
one_row d = sym (append-nil (compact_text d))

-- the document with some rows more
pub rows_added : (opening : List Token) (old new : OpenRows) (rows : List Data) (d : Data)
    (ds : List Data) (comma more : List ℕ) → HoldsOpen opening old rows → IsUtf8 more
    → more ≡ open_items false (d ∷ ds) → comma ≡ old.bytes.items ++ comma_if old.has_rows
    → new.bytes.items ≡ comma ++ more → new.has_rows ≡ true → HoldsOpen opening new (rows ++ d ∷ ds)
rows_added opening old new rows d ds comma more holds utf8 is before all later = record {
  text =
      all
      ∙ ap₂ (λ b r. b ++ r) before is
      ∙ ap (λ b. (b ++ comma_if old.has_rows) ++ added) holds.text
      ∙ ap (λ b. ((print opening ++ open_items false rows) ++ comma_if b) ++ added) holds.has_rows
      ∙ append_assoc (print opening ++ open_items false rows) (comma_if (is_later rows)) added
      ∙ append_assoc (print opening) (open_items false rows) (comma_if (is_later rows) ++ added)
      ∙ ap (λ t. print opening ++ t) (sym (open_more rows d ds));
  begun = holds.begun;
  utf8 =
      subst IsUtf8 (sym (open_more rows d ds))
      (IsUtf8-append (open_items false rows) (comma_if (is_later rows) ++ added) holds.utf8
      (IsUtf8-append (comma_if (is_later rows)) added (comma_utf8 (is_later rows))
      (subst IsUtf8 is utf8)));
  has_rows = later ∙ sym (later_with rows);
}
  where
    added : List ℕ
    added = open_items false (d ∷ ds)

    later_with : (xs : List Data) → is_later (xs ++ d ∷ ds) ≡ true
    later_with [] = refl
    later_with (x ∷ xs) = refl

-- the document as far as its rows is UTF-8
pub open_utf8 : (opening : List Token) (draft : OpenRows) (rows : List Data)
    → HoldsOpen opening draft rows → IsUtf8 draft.bytes.items
open_utf8 opening draft rows holds =
    subst IsUtf8 (sym holds.text)
    (IsUtf8-append (print opening) (open_items false rows) holds.begun holds.utf8)
