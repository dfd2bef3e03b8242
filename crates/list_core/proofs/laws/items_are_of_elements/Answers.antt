use Rattle.list_core.proofs.FieldLenientLemmas.{of_elements}
use Rattle.list_core.proofs.laws.items_are_of_elements.Goals as goal

pub returns : goal.returns
returns c = of_elements
