use Rattle.cell_core.proofs.CellMigrationLemmas.{keeps_stamp_joins}
use Rattle.cell_core.proofs.laws.migration_keeps_stamp_joins.Goals as goal

pub returns : goal.returns
returns c = keeps_stamp_joins
