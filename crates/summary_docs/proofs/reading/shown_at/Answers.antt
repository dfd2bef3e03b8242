use Rattle.std.specs.Prelude.{◌≢◌}
use Rattle.json_docs.specs.declared.fault.DocCause.TheVariants.{NoMemory, Shape}
use Rattle.json_docs.specs.declared.fault.Spot.TheVariants.{Document}
use Rattle.summary_docs.proofs.ReadingLemmas.{caused, other_caused}
use Rattle.summary_docs.proofs.reading.shown_at.Goals as goal

pub labelled_at-requires : goal.labelled_at-requires
labelled_at-requires c =
    let apart : Shape Document ≢ NoMemory = λ same. cc in
    caused c.args.document c.args.bytes.now c.in-Err.fault (Shape Document) c.in-Err.ensures
    (rw c.if-is_of_document.true at c.is_of_document.ensures) apart

-- it is refused for another cause
pub returns-else-is_of_document : goal.returns-else-is_of_document
returns-else-is_of_document c =
    other_caused c.args.document c.args.bytes.now c.in-Err.fault c.in-Err.ensures
    (rw c.if-is_of_document.false at c.is_of_document.ensures)
