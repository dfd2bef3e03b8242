use Rattle.query_docs.proofs.LabelsLaws.{one_counts}
use Rattle.query_docs.proofs.laws.one_list_of_label_counts.Goals as goal

pub returns : goal.returns
returns c = one_counts
