-- What a question or a task makes of its input.
use Rattle.std.specs.Prelude.{Result, MatchResult}
use Rattle.cata_core.specs.Site.{SiteState}
use Rattle.front_core.specs.declared.answer.Answer.{Answer}
use Rattle.front_core.specs.declared.fault.FrontFault.{FrontFault}
use Rattle.command_core.specs.Status.{answer_status}
use Rattle.command_core.specs.OutputStreams.{Reader}
use Rattle.command_core.specs.TaskWords.{TaskWords}
use Rattle.command_core.specs.TaskActs.{AnswersQuestion, RefusesQuestion, Answers, Refuses}

-- ---- questions to a site

-- the question of the words is answered, or refused
abbrev pub Asks : {R Q : Type 0} → (Q → Type 0) → (FrontFault → Type 0)
    → (Q → SiteState → Answer → Type 0) → Reader R → Result Answer FrontFault → Type 0
Asks Reads Refuses Is reader answered = MatchResult answered
    (λ answer. AnswersQuestion Reads Is reader answer.text (answer_status answer.outcome))
    (RefusesQuestion Reads Refuses reader)

-- ---- any command

-- the task is answered by a text and the status of its outcome, or refused
abbrev pub Performs : {R : Type 0} → TaskWords → Reader R → Result Answer FrontFault → Type 0
Performs asked reader answered = MatchResult answered
    (λ answer. Answers asked reader answer.text (answer_status answer.outcome))
    (Refuses asked reader)
