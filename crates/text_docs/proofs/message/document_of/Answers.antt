use Rattle.std.proofs.Common.{◌∙◌, ◌++◌, ◌-◌, ap, drop, length, take}
use Rattle.std.specs.List.{slice_range}
use Rattle.json.specs.Print.{escape_byte}
use Rattle.text_docs.specs.Rows.{opening}
use Rattle.text_docs.proofs.ListLemmas.{to_end}
use Rattle.text_docs.proofs.message.document_of.Goals as goal

-- the opening, the rows and what comes after all rows are written as they are
pub returns : goal.returns
unfolding escape_byte
returns c =
    let rows = slice_range c.args.text.now c.args.part.start c.args.part.end in
    c.in_ok-document-3.ensures
    ∙ ap (λ bs. bs ++ take (length c.args.text.now - c.args.end) (drop c.args.end c.args.text.now))
    (c.in_ok-document-2.ensures
    ∙ ap (λ bs. bs ++ rows)
    (c.in_ok-document.ensures ∙ ap (λ bs. bs ++ opening) c.new.ensures.items))
    ∙ ap (λ bs. opening ++ (rows ++ bs)) (to_end c.args.text.now c.args.end)
