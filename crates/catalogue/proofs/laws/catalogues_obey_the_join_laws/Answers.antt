use Rattle.catalogue.specs.inner.Entries.{catalogue_laws}
use Rattle.catalogue.proofs.laws.catalogues_obey_the_join_laws.Goals as goal

pub returns : goal.returns
returns c = catalogue_laws
