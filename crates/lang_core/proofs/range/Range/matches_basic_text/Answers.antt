use Rattle.std.proofs.Common.{rules}
use Rattle.lang_core.proofs.MatchingFrontsLemmas.{basic_test}
use Rattle.lang_core.proofs.LookupTextLemmas.{lower-range}
use Rattle.lang_core.proofs.range.Range.matches_basic_text.Goals as goal

pub matches_basic_text-requires : goal.matches_basic_text-requires
matches_basic_text-requires c = lower-range c.as_bytes.result.now (search rules)

pub returns-clause-test : goal.returns-clause-test
returns-clause-test c = basic_test _ _ c.matches_basic_text.result (search rules)
