use Rattle.std.proofs.Common.{rules}
use Rattle.lang_core.proofs.MatchingFrontsLemmas.{basic_test}
use Rattle.lang_core.proofs.range.Range.matches_basic.Goals as goal

pub returns-clause-test : goal.returns-clause-test
returns-clause-test c = basic_test _ _ c.matches_basic.result (search rules)
