use Rattle.std.specs.Prelude.{IsTrue, ◌↔◌}
use Rattle.lang_core.specs.Text.{pieces, subtags}
use Rattle.lang_core.specs.Matching.{IsFront}
use Rattle.lang_core.proofs.MatchingFrontsLemmas.{star_matches, front_matches}
use Rattle.lang_core.proofs.matching.matches_basic_text.Goals as goal

pub returns-then-is_star : goal.returns-then-is_star
returns-then-is_star c =
    star_matches c.args.range.now _ c.is_star.result c.if-is_star.true c.is_star.ensures

pub returns-else-is_star : goal.returns-else-is_star
returns-else-is_star c =
    let law : IsTrue c.is_front_in_any_case.result
    ↔ IsFront (pieces c.args.range.now) (subtags c.args.text.now) =
    rw c.requires at c.is_front_in_any_case.ensures in
    front_matches c.args.range.now _ c.is_star.result c.is_front_in_any_case.result
    c.if-is_star.false c.is_star.ensures law
