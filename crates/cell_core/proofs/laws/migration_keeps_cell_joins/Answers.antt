use Rattle.cell_core.proofs.CellMigrationLemmas.{keeps_cell_joins}
use Rattle.cell_core.proofs.laws.migration_keeps_cell_joins.Goals as goal

pub returns : goal.returns
returns c = keeps_cell_joins
