use Rattle.std.proofs.Common.{rules}
use Rattle.cata_core.proofs.answer.AnswersPartialEq.eq.Goals as goal

pub returns : goal.returns
returns c = search rules
