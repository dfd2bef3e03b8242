use Rattle.front_core.proofs.TagPickLaws.{one_pick_line}
use Rattle.front_core.proofs.laws.one_pick_line.Goals as goal

pub returns : goal.returns
returns c = one_pick_line
