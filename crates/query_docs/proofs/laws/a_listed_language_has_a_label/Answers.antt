use Rattle.query_docs.proofs.LabelsLaws.{listed_with_label}
use Rattle.query_docs.proofs.laws.a_listed_language_has_a_label.Goals as goal

pub returns : goal.returns
returns c = listed_with_label
