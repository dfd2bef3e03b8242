-- When the answers of runs are equal.
use Rattle.std.specs.Prelude.{Bool, List}
use Rattle.std.specs.Cmp.Lexicographic.{pointwise}
use Rattle.cata_core.specs.declared.answer.Answer.{Answer}
use Rattle.cata_core.specs.contracts.answer.AnswerPartialEq.TheImpl as answer_impl

-- what `==` says of two answers, by what its derive states
abbrev pub answer_eq : Answer → Answer → Bool
answer_eq = (answer_impl.ghosts).eq

-- the same answers in the same order
abbrev pub answers_eq : List Answer → List Answer → Bool
answers_eq = pointwise answer_eq
