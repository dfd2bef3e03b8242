use Rattle.std.proofs.Common.{◌∙◌, ◌++◌, [], ◌∷◌, ap, append_assoc, refl}
use Rattle.std.proofs.lemmas.Str.{IsUtf8-append}
use Rattle.json.proofs.Printed.Utf8.{IsUtf8-are_ascii}
use Rattle.site_docs.proofs.OpenRowsLemmas.{one_row, rows_added}
use Rattle.site_docs.proofs.open_rows.OpenRows.add_front.Goals as goal

-- the comma, the row and its bracket
pub returns : goal.returns
returns c = λ opening rows d holds is.
    let comma = c.in_ok-add_comma.ensures in
    let before = c.add_comma.new.self.bytes.items in
    let front = c.args.front.now in
    let copied = c.in_ok-extend_from_slice.ensures.items
    ∙ ap (λ bytes. before ++ bytes) c.as_bytes.ensures.value in
    rows_added opening c.args.self.now _ rows d [] before (front ++ 93 ∷ []) holds
    (IsUtf8-append front (93 ∷ []) c.utf8.front (IsUtf8-are_ascii (93 ∷ []) refl))
    (is ∙ one_row d) comma.bytes
    (c.in_ok-push.ensures.items ∙ ap (λ bytes. bytes ++ 93 ∷ []) copied
    ∙ append_assoc before front (93 ∷ [])) comma.rows
