use Rattle.catalogue.proofs.CatalogueLatestLemmas.{above_each}
use Rattle.cata_core.proofs.laws.above_the_latest_is_above_each.Goals as goal

pub returns : goal.returns
returns c = above_each
