use Rattle.std.proofs.Common.{◌∙◌, []}
use Rattle.std.proofs.lemmas.Result.{IfOk-weaker}
use Rattle.row_docs.specs.Entries.{cells_values, entry_value}
use Rattle.site_docs.specs.Envelope.{cells_opening}
use Rattle.site_docs.proofs.OpenRowsLemmas.{one_row}
use Rattle.site_docs.proofs.RowsDraftLemmas.{row_added}
use Rattle.site_docs.proofs.rows_draft.RowsDraft.add_row.Goals as goal

-- the bytes are those of a text
pub returns : goal.returns
returns c =
    IfOk-weaker c.add.result _ _ (λ _ added. λ rows e holds kept is.
    row_added (record { rows = c.add.new.self }) rows e holds.each kept
    (added cells_opening (cells_values rows) (entry_value e) [] holds.rows c.as_bytes.ensures.utf8
    (c.as_bytes.ensures.value ∙ is ∙ one_row (entry_value e)))) c.add.ensures
