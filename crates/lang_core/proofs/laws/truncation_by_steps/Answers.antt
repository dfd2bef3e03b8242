use Rattle.lang_core.proofs.TruncationSteps.{by_steps, shortened_basic}
use Rattle.lang_core.proofs.laws.truncation_by_steps.Goals as goal

pub returns-clause-step : goal.returns-clause-step
returns-clause-step c = by_steps

pub returns-clause-basic : goal.returns-clause-basic
returns-clause-basic c = shortened_basic
