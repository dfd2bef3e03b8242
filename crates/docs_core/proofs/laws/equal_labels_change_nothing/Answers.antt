use Rattle.docs_core.proofs.UpdatingLaws.{equal_document, equal_nothing}
use Rattle.docs_core.proofs.laws.equal_labels_change_nothing.Goals as goal

pub returns-clause-cells : goal.returns-clause-cells
returns-clause-cells c = equal_nothing

pub returns-clause-document : goal.returns-clause-document
returns-clause-document c = equal_document
