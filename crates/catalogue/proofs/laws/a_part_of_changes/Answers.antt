use Rattle.catalogue.proofs.ChangesLemmas.{part_changes}
use Rattle.catalogue.proofs.laws.a_part_of_changes.Goals as goal

pub returns : goal.returns
returns c = part_changes
