use Rattle.std.proofs.Common.{◌≡◌, ℕ, Some}
use Rattle.lang_core.specs.Text.{subtags}
use Rattle.lang_core.specs.Grammar.{tag_piece}
use Rattle.lang_core.specs.inner.Pieces.{pieces_left}
use Rattle.lang_core.specs.inner.Stage.{accepts}
use Rattle.lang_core.specs.declared.stage.Stage.TheVariants.{Start}
use Rattle.lang_core.proofs.SubtagCaseLemmas.{lowered}
use Rattle.lang_core.proofs.PiecesWalk.{IsWalked}
use Rattle.lang_core.proofs.grammar.fault_by_subtags.Given as goal

abbrev pub invariant-loop-piece : goal.invariant-loop-piece
invariant-loop-piece l =
    ((place : ℕ) × IsWalked tag_piece l.text (pieces_left l.piece-iterator) place l.offset)
    × (accepts (subtags l.text) (Some Start)
    ≡ accepts (lowered (pieces_left l.piece-iterator)) l.stage)
