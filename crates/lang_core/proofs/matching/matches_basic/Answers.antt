use Rattle.lang_core.proofs.MatchingFrontsLemmas.{star_matches, front_matches}
use Rattle.lang_core.proofs.matching.matches_basic.Goals as goal

pub returns-then-is_star : goal.returns-then-is_star
returns-then-is_star c =
    star_matches c.args.range.now _ c.is_star.result c.if-is_star.true c.is_star.ensures

pub returns-else-is_star : goal.returns-else-is_star
returns-else-is_star c =
    front_matches c.args.range.now _ c.is_star.result c.is_front.result c.if-is_star.false
    c.is_star.ensures c.is_front.ensures
