use Rattle.catalogue.proofs.CataloguePartsLemmas.{find-part}
use Rattle.catalogue.proofs.laws.a_part_has_its_keys.Goals as goal

pub returns : goal.returns
returns c = find-part
