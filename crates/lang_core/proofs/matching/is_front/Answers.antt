use Rattle.std.proofs.Common.{rules}
use Rattle.lang_core.proofs.MatchingFrontsLemmas.{front_found, front_missed}
use Rattle.lang_core.proofs.matching.is_front.Goals as goal

pub returns-in-Some : goal.returns-in-Some
returns-in-Some c =
    front_found c.args.front.now c.args.text.now c.in-Some.start.now c.eq.result (search rules)
    (search rules) (search rules)

pub returns-in-None : goal.returns-in-None
returns-in-None c = front_missed c.args.front.now c.args.text.now (search rules)
