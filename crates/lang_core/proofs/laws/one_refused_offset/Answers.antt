use Rattle.lang_core.proofs.GrammarOneOffset.{one_offset}
use Rattle.lang_core.proofs.laws.one_refused_offset.Goals as goal

pub returns : goal.returns
returns c = one_offset
