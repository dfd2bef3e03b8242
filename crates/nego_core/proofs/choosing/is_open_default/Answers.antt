use Rattle.std.proofs.Common.{rules}
use Rattle.nego_core.proofs.choosing.is_open_default.Goals as goal

pub returns-then-holds : goal.returns-then-holds
returns-then-holds c = search rules
