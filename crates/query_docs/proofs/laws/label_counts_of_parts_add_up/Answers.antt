use Rattle.query_docs.proofs.LabelsLaws.{counts_of_join, counts_of_split}
use Rattle.query_docs.proofs.laws.label_counts_of_parts_add_up.Goals as goal

pub returns-clause-messages : goal.returns-clause-messages
returns-clause-messages c = counts_of_split

pub returns-clause-catalogues : goal.returns-clause-catalogues
returns-clause-catalogues c = counts_of_join
