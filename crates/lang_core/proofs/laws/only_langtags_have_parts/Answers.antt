use Rattle.lang_core.proofs.PartsLaw.{private_apart, irregular_apart}
use Rattle.lang_core.proofs.laws.only_langtags_have_parts.Goals as goal

pub returns-clause-private : goal.returns-clause-private
returns-clause-private c = private_apart

pub returns-clause-irregular : goal.returns-clause-irregular
returns-clause-irregular c = irregular_apart
