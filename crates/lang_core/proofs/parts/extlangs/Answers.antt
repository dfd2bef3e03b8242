use Rattle.lang_core.proofs.PartsLemmas.{extlangs_part}
use Rattle.lang_core.proofs.parts.extlangs.Goals as goal

pub returns : goal.returns
returns c = (extlangs_part _ _ _ _ c.after_language.ensures c.split_run.ensures).0
