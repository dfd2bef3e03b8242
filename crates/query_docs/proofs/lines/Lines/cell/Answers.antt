use Rattle.std.proofs.Common.{◌∙◌, ◌++◌, ◌∷◌, [], ap, append_assoc}
use Rattle.std.proofs.lemmas.Result.{IfOk-weaker}
use Rattle.row_docs.specs.Entries.{row_of}
use Rattle.row_docs.specs.EntriesValues.{cell_value}
use Rattle.query_docs.proofs.LinesLemmas.{printed_after}
use Rattle.query_docs.proofs.lines.Lines.cell.Goals as goal

pub returns : goal.returns
returns c =
    let entry = c.args.edit.now in
    let row =
    printed_after c.new-json.result c.write_entry.new.out c.args.self
    (cell_value (row_of entry) entry.1.label) (c.new-json.ensures.before ∙ c.self.view_is)
    c.new-json.ensures.tokens
    (rw (c.id.ensures, c.lang.ensures, c.cell.ensures) at c.in_ok-write_entry.ensures.tokens) in
    IfOk-weaker c.text.result _ _
    (λ _ is. is ∙ ap (λ t. t ++ 10 ∷ []) (c.into_inner.ensures.items ∙ row)
    ∙ append_assoc c.args.self _ (10 ∷ [])) c.text.ensures
