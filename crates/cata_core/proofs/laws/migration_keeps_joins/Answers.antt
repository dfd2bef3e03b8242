use Rattle.cata_core.proofs.SiteMigrationLemmas.{keeps_catalogue_joins}
use Rattle.cata_core.proofs.laws.migration_keeps_joins.Goals as goal

pub returns : goal.returns
returns c = keeps_catalogue_joins
