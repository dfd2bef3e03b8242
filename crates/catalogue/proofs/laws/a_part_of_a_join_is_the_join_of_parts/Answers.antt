use Rattle.catalogue.proofs.CataloguePartsLemmas.{parts_agree, parts_join}
use Rattle.catalogue.proofs.laws.a_part_of_a_join_is_the_join_of_parts.Goals as goal

pub returns-clause-agree : goal.returns-clause-agree
returns-clause-agree c = parts_agree

pub returns-clause-join : goal.returns-clause-join
returns-clause-join c = parts_join
