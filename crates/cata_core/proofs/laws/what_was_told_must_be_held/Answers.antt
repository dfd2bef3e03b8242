use Rattle.cata_core.proofs.RunsNeededLemmas.{delta_too_small}
use Rattle.cata_core.proofs.laws.what_was_told_must_be_held.Goals as goal

pub returns : goal.returns
returns c = delta_too_small
