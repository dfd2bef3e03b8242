use Rattle.nego_core.proofs.ChoosingNothingRefused.{no_tag_refused, no_lang_refused}
use Rattle.nego_core.proofs.laws.nothing_refused.Goals as goal

pub returns-clause-tags : goal.returns-clause-tags
returns-clause-tags c = no_tag_refused

pub returns-clause-langs : goal.returns-clause-langs
returns-clause-langs c = no_lang_refused
