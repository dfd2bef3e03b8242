use Rattle.script_docs.specs.Reading.{RefusesScript}
use Rattle.row_docs.proofs.ReadersLemmas.{of_reader}
use Rattle.script_docs.proofs.reading.read_script.Goals as goal

pub returns-in-Err : goal.returns-in-Err
returns-in-Err c =
    rw c.of_document.ensures
    (of_reader 1 (RefusesScript c.args.bytes.now) c.in-Err.cause c.in-Err.ensures)
