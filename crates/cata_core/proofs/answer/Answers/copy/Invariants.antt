use Rattle.std.proofs.Common.{◌≡◌, take}
use Rattle.cata_core.proofs.answer.Answers.copy.Given as goal

abbrev pub invariant-loop-answer : goal.invariant-loop-answer
invariant-loop-answer l = l.answers.items ≡ take l.answer-index l.answer-items
