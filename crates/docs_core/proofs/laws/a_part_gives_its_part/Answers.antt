use Rattle.docs_core.proofs.OutdatedLemmas.{outdated_of_part}
use Rattle.docs_core.proofs.PartLaws.{bundle_of_part, live_of_part, missing_of_part}
use Rattle.docs_core.proofs.PartLaws.{nothing_in_parts}
use Rattle.docs_core.proofs.laws.a_part_gives_its_part.Goals as goal

pub returns-clause-export : goal.returns-clause-export
returns-clause-export c = live_of_part

pub returns-clause-missing : goal.returns-clause-missing
returns-clause-missing c = missing_of_part

pub returns-clause-outdated : goal.returns-clause-outdated
returns-clause-outdated c = outdated_of_part

pub returns-clause-bundle : goal.returns-clause-bundle
returns-clause-bundle c =
    λ messages widening cells items default labels bundle.
    bundle_of_part widening cells items default messages labels bundle

pub returns-clause-nothing : goal.returns-clause-nothing
returns-clause-nothing c = nothing_in_parts
