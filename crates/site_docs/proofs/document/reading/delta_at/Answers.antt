use Rattle.site_docs.specs.Reading.{RefusesDelta}
use Rattle.row_docs.proofs.ReadersLemmas.{of_reader}
use Rattle.site_docs.proofs.document.reading.delta_at.Goals as goal

pub returns-in-Err : goal.returns-in-Err
returns-in-Err c = rw c.of_document.ensures
    (of_reader c.args.document (RefusesDelta c.args.bytes.now) c.in-Err.cause c.in-Err.ensures)
