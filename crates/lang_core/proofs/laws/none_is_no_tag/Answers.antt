use Rattle.lang_core.proofs.LangLemmas.{none_no_tag}
use Rattle.lang_core.proofs.laws.none_is_no_tag.Goals as goal

pub returns : goal.returns
returns c = none_no_tag
