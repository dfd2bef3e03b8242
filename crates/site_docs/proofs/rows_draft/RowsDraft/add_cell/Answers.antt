use Rattle.std.proofs.Common.{◌∙◌, ◌++◌, ap}
use Rattle.std.proofs.lemmas.Result.{IfOk-weaker}
use Rattle.catalogue.specs.Entries.{Entry}
use Rattle.row_docs.specs.Entries.{cells_values, entry_value}
use Rattle.row_docs.specs.WritingTexts.{value_tokens}
use Rattle.site_docs.specs.Envelope.{cells_opening}
use Rattle.site_docs.proofs.RowsDraftLemmas.{row_added}
use Rattle.site_docs.proofs.rows_draft.RowsDraft.add_cell.Goals as goal

-- the row, whose tokens were written
pub returns : goal.returns
returns c =
    let e : Entry = ((c.args.id.now, c.args.lang.now), c.args.cell.now) in
    let begun = c.begin_row-row.ensures in
    let wrote = c.in_ok-write_entry.ensures in
    IfOk-weaker c.end_row.result _ _ (λ _ added. λ rows holds.
    row_added (record { rows = c.end_row.new.self }) rows e holds.each wrote.kept
    (added cells_opening (cells_values rows) (entry_value e)
    (begun.same cells_opening (cells_values rows) holds.rows) (wrote.tokens.0 ∙ begun.before)
    (wrote.tokens.1 ∙ ap (λ ts. ts ++ value_tokens (entry_value e)) begun.tokens)))
    c.end_row.ensures
