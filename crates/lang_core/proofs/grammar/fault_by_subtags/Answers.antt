use Rattle.std.proofs.Common.{rules, arith, ℕ, List, ◌≡◌, ◌+◌, [], ◌∷◌, true, Some, ◌∙◌, sym, ap}
use Rattle.std.specs.Prelude.{◌||◌}
use Rattle.std.specs.Str.{str_to_ascii_lowercase}
use Rattle.lang_core.specs.Text.{subtags, pieces}
use Rattle.lang_core.specs.Grammar.{tag_piece, is_irregular, are_allowed}
use Rattle.lang_core.specs.inner.Pieces.{pieces_left}
use Rattle.lang_core.specs.inner.Stage.{accepts, stage_after}
use Rattle.lang_core.specs.declared.stage.Stage.TheVariants.{Start}
use Rattle.lang_core.proofs.SubtagCaseLemmas.{lowered}
use Rattle.lang_core.proofs.PiecesLemmas.{pieces-lower}
use Rattle.lang_core.proofs.GrammarLemmas.{accepts_next, is_tag, is_no_tag}
use Rattle.lang_core.proofs.PiecesWalk.{walk_start, walk_on, walk_fits, walk_end}
use Rattle.lang_core.proofs.grammar.fault_by_subtags.Goals as goal

pub loop-piece-init : goal.loop-piece-init
loop-piece-init c =
    let all : pieces_left c.into_iter-piece-iterator.result ≡ pieces c.args.text.now =
    search rules in (
      (0, walk_start tag_piece c.args.text.now _ all),
      ap (λ list. accepts list (Some Start))
          (pieces-lower c.args.text.now ∙ ap lowered (sym all)),
    )

pub overflow_add-offset-in-loop-piece : goal.overflow_add-offset-in-loop-piece
overflow_add-offset-in-loop-piece c =
    let fits =
    walk_fits tag_piece c.args.text.now c.in-Some.piece.now (pieces_left c.next.new.self)
    c.loop-piece.invariant.0.0 c.loop-piece.offset
    (rw (c.in-Some.ensures.steps) at c.loop-piece.invariant.0.1) in
    omega arith

-- The subtags left, from the stage reached, are accepted as the whole text is from the start: the
-- one that was read moves the stage as the grammar does, and the walk has one good piece more.
pub loop-piece-preserved : goal.loop-piece-preserved
loop-piece-preserved c =
    let walked =
    walk_on tag_piece c.args.text.now c.in-Some.piece.now (pieces_left c.next.new.self)
    c.loop-piece.invariant.0.0 c.loop-piece.offset
    (rw (c.in-Some.ensures.steps) at c.loop-piece.invariant.0.1) c.in-Some-read.ensures.1 in
    let lower : List ℕ = str_to_ascii_lowercase c.in-Some.piece.now in
    let rest : List (List ℕ) = lowered (pieces_left c.next.new.self) in
    let here : accepts (lowered (pieces_left c.loop-piece.piece-iterator)) c.loop-piece.stage
    ≡ accepts (lower ∷ rest) c.loop-piece.stage =
    ap (λ list. accepts (lowered list) c.loop-piece.stage) c.in-Some.ensures.steps in
    let subtag : stage_after c.loop-piece.stage lower ≡ c.stage_after-stage.result =
    ap (stage_after c.loop-piece.stage) (sym c.in-Some-read.ensures.0)
    ∙ sym c.stage_after-stage.ensures in (
      (c.loop-piece.invariant.0.0 + 1, walked),
      c.loop-piece.invariant.1
          ∙ (here ∙ (accepts_next lower rest c.loop-piece.stage ∙ ap (accepts rest) subtag)),
    )

pub returns-then-is_well_formed : goal.returns-then-is_well_formed
returns-then-is_well_formed c =
    let none : pieces_left c.loop-piece.piece-iterator ≡ [] = c.in-None.ensures.steps.0 in
    let each : are_allowed tag_piece 0 (subtags c.args.text.now) ≡ true =
    walk_end tag_piece c.args.text.now c.loop-piece.invariant.0.0 c.loop-piece.offset
    (rw none at c.loop-piece.invariant.0.1) in
    let stages : accepts (subtags c.args.text.now) (Some Start) ≡ accepts [] c.loop-piece.stage =
    c.loop-piece.invariant.1 ∙ ap (λ list. accepts (lowered list) c.loop-piece.stage) none in
    is_tag c.args.text.now c.is_well_formed.result c.requires each
    (c.is_well_formed.ensures
    ∙ ap (λ b. b || is_irregular (str_to_ascii_lowercase c.args.text.now)) (sym stages))
    c.if-is_well_formed.true

pub returns-else-is_well_formed : goal.returns-else-is_well_formed
returns-else-is_well_formed c =
    let none : pieces_left c.loop-piece.piece-iterator ≡ [] = c.in-None.ensures.steps.0 in
    let each : are_allowed tag_piece 0 (subtags c.args.text.now) ≡ true =
    walk_end tag_piece c.args.text.now c.loop-piece.invariant.0.0 c.loop-piece.offset
    (rw none at c.loop-piece.invariant.0.1) in
    let stages : accepts (subtags c.args.text.now) (Some Start) ≡ accepts [] c.loop-piece.stage =
    c.loop-piece.invariant.1 ∙ ap (λ list. accepts (lowered list) c.loop-piece.stage) none in
    is_no_tag c.args.text.now c.is_well_formed.result each
    (c.is_well_formed.ensures
    ∙ ap (λ b. b || is_irregular (str_to_ascii_lowercase c.args.text.now)) (sym stages))
    c.if-is_well_formed.false
