use Rattle.std.proofs.Common.{inl, inr, refl, sym, ◌∙◌}
use Rattle.lang_core.proofs.PiecesLemmas.{pieces_cut, pieces_whole}
use Rattle.list_core.proofs.field.cut_piece.Goals as goal

pub returns-in-Some : goal.returns-in-Some
returns-in-Some c =
    inl (pieces_cut 44 c.args.text.now c.in-Some.at (sym c.comma_at.ensures ∙ c.in-Some.is))

pub returns-in-None : goal.returns-in-None
returns-in-None c =
    inr (pieces_whole 44 c.args.text.now (sym c.comma_at.ensures ∙ c.in-None.is), refl)
