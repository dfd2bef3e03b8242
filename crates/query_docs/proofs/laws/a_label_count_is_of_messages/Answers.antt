use Rattle.query_docs.proofs.LabelsLaws.{count_of_messages}
use Rattle.query_docs.proofs.laws.a_label_count_is_of_messages.Goals as goal

pub returns : goal.returns
returns c = count_of_messages
