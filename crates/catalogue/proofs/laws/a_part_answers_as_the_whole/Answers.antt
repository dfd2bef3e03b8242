use Rattle.catalogue.proofs.CataloguePartsLemmas.{part_filters, part_looks_up, part_looks_up_by}
use Rattle.catalogue.proofs.laws.a_part_answers_as_the_whole.Goals as goal

pub returns-clause-filter : goal.returns-clause-filter
returns-clause-filter c = part_filters

pub returns-clause-lookup : goal.returns-clause-lookup
returns-clause-lookup c = part_looks_up

pub returns-clause-widened : goal.returns-clause-widened
returns-clause-widened c = part_looks_up_by
