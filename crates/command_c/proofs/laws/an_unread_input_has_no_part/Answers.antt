use Rattle.command_c.proofs.AnswerLemmas.{unread_answers, unread_runs}
use Rattle.command_c.proofs.laws.an_unread_input_has_no_part.Goals as goal

pub returns-clause-run : goal.returns-clause-run
returns-clause-run c = unread_runs

pub returns-clause-answer : goal.returns-clause-answer
returns-clause-answer c = unread_answers
