use Rattle.map_docs.specs.MapsLabels.{RefusesLangMaps}
use Rattle.row_docs.proofs.ReadersLemmas.{of_reader}
use Rattle.map_docs.proofs.reading.langmaps_of_document.Goals as goal

pub returns-in-Err : goal.returns-in-Err
returns-in-Err c =
    rw c.of_document.ensures
    (of_reader c.args.document (RefusesLangMaps c.args.bytes.now) c.in-Err.cause
    c.in-Err.ensures)
