use Rattle.std.proofs.Common.{refl}
use Rattle.cata_core.proofs.delta.is_missing.Goals as goal

pub returns-in-None : goal.returns-in-None
returns-in-None c = rw c.in-None.is refl
