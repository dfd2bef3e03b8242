use Rattle.std.proofs.Common.{rules}
use Rattle.cell_core.proofs.keyed.Keyed.new.Goals as goal

pub invariant_of-result : goal.invariant_of-result
invariant_of-result c = search rules
