use Rattle.std.proofs.Common.{◌∙◌, sym}
use Rattle.front_core.proofs.ArrivalsLemmas.{same_cells}
use Rattle.front_core.proofs.arrivals.are_alike.Goals as goal

pub returns : goal.returns
returns c = λ t. same_cells c.args.cell c.args.other (sym c.eq.ensures ∙ t)
