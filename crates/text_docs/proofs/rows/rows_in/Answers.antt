use Rattle.std.proofs.Common.{◌∙◌, sym}
use Rattle.text_docs.proofs.ListLemmas.{to_end}
use Rattle.text_docs.proofs.PartLemmas.{rows_at}
use Rattle.text_docs.proofs.rows.rows_in.Goals as goal

-- the rows lie between the opening and the bracket
pub returns-then-end : goal.returns-then-end
returns-then-end c =
    rows_at c.args.text.now c.in_ok-_rest._rest.now c.in_ok-end.end c.if-end.true
    (sym (to_end c.args.text.now c.in_ok-end.end) ∙ c.in_ok-_rest.ensures)
