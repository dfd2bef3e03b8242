use Rattle.std.proofs.Common.{rules}
use Rattle.lang_core.proofs.MatchingFrontsLemmas.{lower_front_found, lower_front_missed}
use Rattle.lang_core.proofs.matching.is_front_in_any_case.Goals as goal

pub returns-in-Some : goal.returns-in-Some
returns-in-Some c =
    lower_front_found c.args.front.now c.args.text.now c.in-Some.start.now
    c.eq_ignore_ascii_case.result (search rules) (search rules) c.eq_ignore_ascii_case.ensures.test

pub returns-in-None : goal.returns-in-None
returns-in-None c = lower_front_missed c.args.front.now c.args.text.now (search rules)
