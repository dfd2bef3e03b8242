use Rattle.lang_core.proofs.PartsLemmas.{region_part}
use Rattle.lang_core.proofs.parts.after_region.Goals as goal

pub returns : goal.returns
returns c = (region_part _ _ _ _ c.after_script.ensures c.split_run.ensures).1
