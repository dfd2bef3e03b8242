use Rattle.command_core.specs.OutputStreams.{reads}
use Rattle.command_core.proofs.QuestionsLemmas.{input_asked}
use Rattle.command_core.proofs.questions.ask.Goals as goal

pub returns : goal.returns
returns g c =
    input_asked c.args.question g.Q.Question.Answers c.in_ok-asked.asked
    (reads g.R.Source.remaining g.R.Source.failed c.args.reader.now c.read_all.new.reader)
    c.in_ok-input.input c.answer.result c.in_ok-asked.was c.in_ok-input.ensures
    (rw (← c.bytes.ensures) c.answer.ensures)
