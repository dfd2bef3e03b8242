use Rattle.row_docs.proofs.ShapesMigrationLemmas.{cell_migrated}
use Rattle.row_docs.proofs.laws.a_row_reads_as_migrated.Goals as goal

pub returns : goal.returns
returns c = cell_migrated
