use Rattle.lang_core.proofs.PartsLaw.{same_parts}
use Rattle.lang_core.proofs.laws.one_derivation.Goals as goal

pub returns : goal.returns
returns c = same_parts
