use Rattle.std.proofs.Common.{sym, ◌∙◌}
use Rattle.list_core.proofs.WeightBlanksLemmas.{cut_at, cut_whole}
use Rattle.list_core.proofs.weight.cut_token.Goals as goal

pub returns-in-Some : goal.returns-in-Some
returns-in-Some c = cut_at c.args.text.now c.in-Some.at (sym c.stop_at.ensures ∙ c.in-Some.is)

pub returns-in-None : goal.returns-in-None
returns-in-None c = cut_whole c.args.text.now (sym c.stop_at.ensures ∙ c.in-None.is)
