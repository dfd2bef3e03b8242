-- What `Eq` asks of the answers of runs.
use Rattle.std.specs.Cmp.{IsEquivalence}
use Rattle.std.specs.Cmp.Lexicographic.{lists_equiv}
use Rattle.cata_core.specs.contracts.answer.AnswerEq.TheImpl.Laws as answer_laws
use Rattle.cata_core.specs.AnswerEq.{answers_eq}

-- equality of the answers of runs is an equivalence
pub answers_equiv : IsEquivalence answers_eq
answers_equiv = lists_equiv answer_laws.laws-law
