use Rattle.catalogue.proofs.CatalogueSettledLemmas.{consistent_settled}
use Rattle.catalogue.proofs.laws.consistent_lists_are_settled.Goals as goal

pub returns : goal.returns
returns c = consistent_settled
