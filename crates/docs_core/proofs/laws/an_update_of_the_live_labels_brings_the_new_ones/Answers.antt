use Rattle.docs_core.proofs.UpdatingLaws.{brings_new}
use Rattle.docs_core.proofs.laws.an_update_of_the_live_labels_brings_the_new_ones.Goals as goal

pub returns : goal.returns
returns c = brings_new
