use Rattle.cata_core.proofs.RunsSettledLemmas.{sound_is_settled}
use Rattle.cata_core.proofs.RunsTakenAndHeldLemmas.{held_is_catalogue}
use Rattle.cata_core.proofs.laws.held_is_what_was_taken.Goals as goal

pub returns-clause-consistent : goal.returns-clause-consistent
returns-clause-consistent c = held_is_catalogue

pub returns-clause-undelivered : goal.returns-clause-undelivered
returns-clause-undelivered c = sound_is_settled
