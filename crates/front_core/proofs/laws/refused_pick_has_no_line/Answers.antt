use Rattle.front_core.proofs.TagPickLaws.{no_line}
use Rattle.front_core.proofs.laws.refused_pick_has_no_line.Goals as goal

pub returns : goal.returns
returns c = no_line
