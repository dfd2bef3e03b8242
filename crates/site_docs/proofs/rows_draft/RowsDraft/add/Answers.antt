use Rattle.std.proofs.lemmas.Result.{IfOk-weaker}
use Rattle.site_docs.specs.Sink.{entry_of}
use Rattle.site_docs.proofs.rows_draft.RowsDraft.add.Goals as goal

-- the row is the text of the cell
pub returns-in-Some : goal.returns-in-Some
returns-in-Some c =
    let row = rw c.in-Some.is at c.requires.row in
    IfOk-weaker c.add_row.result _ _
    (λ _ added. λ rows holds. added rows (entry_of c.args.cell.now) holds row.0 row.1)
    c.add_row.ensures
