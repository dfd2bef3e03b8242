use Rattle.std.proofs.Common.{rules, ap, ◌∙◌}
use Rattle.lang_core.specs.TruncationsCandidates.{truncated}
use Rattle.lang_core.proofs.TruncationsLemmas.{truncated_one, truncated_stands, truncated_skips}
use Rattle.lang_core.proofs.PiecesLemmas.{some_pieces}
use Rattle.lang_core.proofs.truncations.shorter.Goals as goal

pub returns-then-not-is_cut : goal.returns-then-not-is_cut
returns-then-not-is_cut c =
    c.loop-front.invariant.1
    ∙ truncated_stands _ _ _ c.in-Some.ensures.parts (some_pieces c.in-Some.front.now)
    (search rules)

pub loop-front-preserved : goal.loop-front-preserved
loop-front-preserved c = (
  search rules,
  c.loop-front.invariant.1
      ∙ truncated_skips _ _ _ c.in-Some.ensures.parts (some_pieces c.in-Some.front.now)
      (search rules),
)

pub returns : goal.returns
returns c =
    c.loop-front.invariant.1 ∙ (ap truncated (search rules) ∙ truncated_one c.loop-front.rest.now)
