use Rattle.catalogue.proofs.CatalogueSettledLemmas.{catalogue_of_both}
use Rattle.catalogue.proofs.laws.catalogue_of_both.Goals as goal

pub returns : goal.returns
returns c = catalogue_of_both
