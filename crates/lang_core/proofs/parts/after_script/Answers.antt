use Rattle.lang_core.proofs.PartsLemmas.{script_part}
use Rattle.lang_core.proofs.parts.after_script.Goals as goal

pub returns : goal.returns
returns c = (script_part _ _ _ _ c.after_extlangs.ensures c.split_run.ensures).1
