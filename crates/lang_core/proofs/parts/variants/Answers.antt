use Rattle.lang_core.proofs.PartsLemmas.{variants_part}
use Rattle.lang_core.proofs.parts.variants.Goals as goal

pub returns : goal.returns
returns c = (variants_part _ _ _ _ c.after_region.ensures c.split_run.ensures).0
