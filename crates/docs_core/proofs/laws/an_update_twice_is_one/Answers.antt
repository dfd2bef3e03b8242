use Rattle.docs_core.proofs.UpdatingLaws.{twice_document, twice_once}
use Rattle.docs_core.proofs.laws.an_update_twice_is_one.Goals as goal

pub returns-clause-cells : goal.returns-clause-cells
returns-clause-cells c = twice_once

pub returns-clause-document : goal.returns-clause-document
returns-clause-document c = twice_document
