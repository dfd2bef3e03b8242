use Rattle.command_core.proofs.TaskInputLemmas.{written_labels, written_site}
use Rattle.command_core.proofs.laws.a_written_text_is_a_document_of_the_input.Goals as goal

pub returns-clause-site : goal.returns-clause-site
returns-clause-site c = written_site

pub returns-clause-labels : goal.returns-clause-labels
returns-clause-labels c = written_labels
