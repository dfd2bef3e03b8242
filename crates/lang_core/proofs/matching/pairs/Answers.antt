use Rattle.std.proofs.Common.{rules, ◌≡◌, sym, ◌∙◌, ap, [], List, ℕ}
use Rattle.std.specs.Prelude.{◌&&◌}
use Rattle.lang_core.specs.inner.Pieces.{pieces_left}
use Rattle.lang_core.specs.Matching.{greedy}
use Rattle.lang_core.proofs.MatchingEmbedding.{greedy_all, greedy_star}
use Rattle.lang_core.proofs.matching.pairs.Goals as goal
use Rattle.lang_core.proofs.matching.pairs.Goals.{else-not-is_star-via-then-not-is_star+else-not-finds}
use Rattle.lang_core.proofs.matching.pairs.Goals.{else-not-is_star-via-else-not-is_star}

-- What is left has the answer of the whole: a "*" pairs with nothing, and any other wanted piece
-- with the first equal one that is given, which is just what was found.
pub loop-piece-preserved : goal.loop-piece-preserved
loop-piece-preserved c =
    let rest : List (List ℕ) = pieces_left c.next.new.self in
    let here =
    c.loop-piece.invariant
    ∙ ap (λ (list : List (List ℕ)). greedy list (pieces_left c.loop-piece.given))
    c.in-Some.ensures.steps in
    here ∙ elim c.else-not-is_star.branch [
      | else-not-is_star-via-then-not-is_star+else-not-finds w ↦
          w.finds.ensures rest
          ∙ (ap (λ b. b && greedy rest (pieces_left w.finds.new.given)) w.if-not-finds.false
          ∙ ap (λ g. greedy rest (pieces_left g)) (sym w.given-is))
      | else-not-is_star-via-else-not-is_star w ↦
          greedy_star c.in-Some.piece.now rest (pieces_left c.loop-piece.given)
          (sym c.is_star.ensures ∙ w.if-not-is_star.false)
          ∙ ap (λ g. greedy rest (pieces_left g)) (sym w.given-is)
    ]

pub returns : goal.returns
returns c =
    let none : pieces_left c.loop-piece.piece-iterator ≡ [] = search rules in
    sym (c.loop-piece.invariant
    ∙ (ap (λ (list : List (List ℕ)). greedy list (pieces_left c.loop-piece.given)) none
    ∙ greedy_all _))
