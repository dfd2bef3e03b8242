use Rattle.std.proofs.Common.{rules, ◌∷◌, ◌∙◌, ap, arith}
use Rattle.lang_core.specs.Matching.{greedy}
use Rattle.lang_core.proofs.MatchingEmbedding.{greedy_pair, greedy_stop, greedy_pass, greedy_none}
use Rattle.lang_core.proofs.matching.finds.Goals as goal

pub returns-then-eq : goal.returns-then-eq
returns-then-eq c rest =
    c.loop-piece.invariant rest
    ∙ (ap (greedy (c.args.wanted.now ∷ rest)) c.in-Some.ensures.steps
    ∙ greedy_pair _ _ _ rest c.requires (search rules))

pub returns-then-piece-le1 : goal.returns-then-piece-le1
returns-then-piece-le1 c rest =
    c.loop-piece.invariant rest
    ∙ (ap (greedy (c.args.wanted.now ∷ rest)) c.in-Some.ensures.steps
    ∙ greedy_stop _ _ _ rest c.requires (search rules) (omega arith))

pub loop-piece-preserved : goal.loop-piece-preserved
loop-piece-preserved c rest =
    c.loop-piece.invariant rest
    ∙ (ap (greedy (c.args.wanted.now ∷ rest)) c.in-Some.ensures.steps
    ∙ greedy_pass _ _ _ rest c.requires (search rules) (omega arith))

pub returns : goal.returns
returns c rest =
    c.loop-piece.invariant rest
    ∙ (ap (greedy (c.args.wanted.now ∷ rest)) (search rules) ∙ greedy_none _ rest c.requires)
