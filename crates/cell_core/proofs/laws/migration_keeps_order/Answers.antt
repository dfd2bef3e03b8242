use Rattle.cell_core.proofs.CellMigrationLemmas.{cmp-migrated}
use Rattle.cell_core.proofs.laws.migration_keeps_order.Goals as goal

pub returns : goal.returns
returns c = cmp-migrated
