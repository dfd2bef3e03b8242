use Rattle.cata_core.proofs.RunsNeededLemmas.{unequal_sites}
use Rattle.command_core.proofs.PromiseLemmas.{other_edits}
use Rattle.command_core.proofs.promise.each_premise_is_needed.Goals as goal

pub returns-clause-consistent : goal.returns-clause-consistent
returns-clause-consistent c = let u = unequal_sites in (u.0, u.1, u.2, u.4, u.5)

pub returns-clause-same : goal.returns-clause-same
returns-clause-same c = other_edits
