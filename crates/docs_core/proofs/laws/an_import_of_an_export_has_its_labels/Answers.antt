use Rattle.docs_core.proofs.ImportingLaws.{import_of_export}
use Rattle.docs_core.proofs.laws.an_import_of_an_export_has_its_labels.Goals as goal

pub returns : goal.returns
returns c = import_of_export
