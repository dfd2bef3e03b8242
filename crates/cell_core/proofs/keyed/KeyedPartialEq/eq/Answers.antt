use Rattle.std.proofs.Common.{rules}
use Rattle.cell_core.proofs.keyed.KeyedPartialEq.eq.Goals as goal

pub returns-then-other-self : goal.returns-then-other-self
returns-then-other-self c = search rules
