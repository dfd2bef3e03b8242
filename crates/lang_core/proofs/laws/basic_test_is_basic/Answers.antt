use Rattle.lang_core.proofs.MatchingBasic.{basic_of_test, test_of_basic}
use Rattle.lang_core.proofs.laws.basic_test_is_basic.Goals as goal

pub returns : goal.returns
returns c = λ range tag. (basic_of_test range tag, test_of_basic range tag)
