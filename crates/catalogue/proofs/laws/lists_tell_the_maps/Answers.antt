use Rattle.catalogue.proofs.CatalogueNestedLemmas.{agree_both_ways, flat-joined, same_catalogue}
use Rattle.catalogue.proofs.laws.lists_tell_the_maps.Goals as goal

pub returns-clause-one : goal.returns-clause-one
returns-clause-one c = same_catalogue

pub returns-clause-agree : goal.returns-clause-agree
returns-clause-agree c = agree_both_ways

pub returns-clause-join : goal.returns-clause-join
returns-clause-join c = flat-joined
