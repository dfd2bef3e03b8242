use Rattle.docs_core.proofs.ImportingLaws.{import_leaves, import_puts}
use Rattle.docs_core.proofs.laws.an_import_puts_its_labels_alone.Goals as goal

pub returns-clause-labels : goal.returns-clause-labels
returns-clause-labels c = import_puts

pub returns-clause-others : goal.returns-clause-others
returns-clause-others c = import_leaves
