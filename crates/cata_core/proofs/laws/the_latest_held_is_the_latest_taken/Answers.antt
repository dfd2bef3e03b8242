use Rattle.catalogue.proofs.CatalogueJoinedLatestLemmas.{latest_joined}
use Rattle.cata_core.proofs.LatestTakenLemmas.{latest_taken}
use Rattle.cata_core.proofs.laws.the_latest_held_is_the_latest_taken.Goals as goal

pub returns-clause-edits : goal.returns-clause-edits
returns-clause-edits c = latest_taken

pub returns-clause-join : goal.returns-clause-join
returns-clause-join c = latest_joined
