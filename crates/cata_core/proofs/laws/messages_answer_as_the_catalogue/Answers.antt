use Rattle.catalogue.proofs.MessagesLemmas.{a_message_answers, no_message_answers}
use Rattle.cata_core.proofs.laws.messages_answer_as_the_catalogue.Goals as goal

pub returns-clause-held : goal.returns-clause-held
returns-clause-held c = a_message_answers

pub returns-clause-absent : goal.returns-clause-absent
returns-clause-absent c = no_message_answers
