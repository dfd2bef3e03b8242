use Rattle.std.proofs.Common.{sym, ◌∙◌}
use Rattle.lang_core.proofs.PiecesLemmas.{pieces_cut, pieces_whole}
use Rattle.list_core.proofs.fallbacks.cut_piece.Goals as goal

pub returns-in-Some-clause-pieces : goal.returns-in-Some-clause-pieces
returns-in-Some-clause-pieces c =
    pieces_cut 44 c.args.text.now c.in-Some.at (sym c.comma_at.ensures ∙ c.in-Some.is)

pub returns-in-None-clause-pieces : goal.returns-in-None-clause-pieces
returns-in-None-clause-pieces c =
    pieces_whole 44 c.args.text.now (sym c.comma_at.ensures ∙ c.in-None.is)
