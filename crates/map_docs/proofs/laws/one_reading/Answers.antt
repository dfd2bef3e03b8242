use Rattle.map_docs.proofs.MapsLawsLemmas.{same_labels}
use Rattle.map_docs.proofs.laws.one_reading.Goals as goal

pub returns : goal.returns
returns c = same_labels
