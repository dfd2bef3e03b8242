use Rattle.list_core.proofs.FallbacksLawsLemmas.{unlisted}
use Rattle.list_core.proofs.laws.a_field_lists_no_texts.Goals as goal

pub returns : goal.returns
returns c = unlisted
