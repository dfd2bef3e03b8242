use Rattle.cata_core.proofs.DeltaPartsLemmas.{part_of_delta, part_of_summary}
use Rattle.cata_core.proofs.laws.a_part_of_a_delta_is_the_delta_of_parts.Goals as goal

pub returns-clause-delta : goal.returns-clause-delta
returns-clause-delta c = part_of_delta

pub returns-clause-summary : goal.returns-clause-summary
returns-clause-summary c = part_of_summary
