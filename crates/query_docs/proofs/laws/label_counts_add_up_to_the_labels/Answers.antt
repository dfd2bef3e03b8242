use Rattle.query_docs.proofs.LabelsLaws.{sum_of_counts}
use Rattle.query_docs.proofs.laws.label_counts_add_up_to_the_labels.Goals as goal

pub returns : goal.returns
returns c = sum_of_counts
