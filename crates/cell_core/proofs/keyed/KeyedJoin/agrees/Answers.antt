use Rattle.std.proofs.Common.{rules}
use Rattle.cell_core.proofs.keyed.KeyedJoin.agrees.Goals as goal

pub returns-then-self-other : goal.returns-then-self-other
returns-then-self-other c = search rules
