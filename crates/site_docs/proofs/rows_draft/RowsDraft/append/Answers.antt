use Rattle.row_docs.specs.Entries.{cells_values}
use Rattle.site_docs.specs.Envelope.{cells_opening}
use Rattle.site_docs.proofs.RowsDraftLemmas.{none_appended, rows_appended}
use Rattle.site_docs.proofs.rows_draft.RowsDraft.append.Goals as goal

-- the comma and the rows
pub returns-in_ok-add : goal.returns-in_ok-add
returns-in_ok-add c = λ rows more holds theirs.
    rows_appended (record { rows = c.add.new.self }) c.args.others.now rows more c.rows.result.now
    holds.each theirs c.if-others.true c.rows.ensures
    (λ d ds utf8 is. c.in_ok-add.ensures cells_opening (cells_values rows) d ds holds.rows utf8 is)

-- there are none
pub returns-else-others : goal.returns-else-others
returns-else-others c = λ rows more holds theirs.
    none_appended c.args.self.now c.args.others.now rows more holds theirs c.if-others.false
