use Rattle.lang_core.specs.Text.{pieces}
use Rattle.lang_core.specs.Grammar.{is_script}
use Rattle.lang_core.specs.Subtags.{subtags_left}
use Rattle.lang_core.specs.Parts.{script_of}
use Rattle.lang_core.proofs.PartsLemmas.{script_part, only_one, first_is}
use Rattle.lang_core.proofs.parts.script.Goals as goal

pub returns : goal.returns
returns c =
    only_one (pieces c.args.tag.now) script_of is_script (subtags_left c.split_run.result.0) _
    (λ t. t.script_ok) (script_part _ _ _ _ c.after_extlangs.ensures c.split_run.ensures).0
    (first_is _ c.next.result (subtags_left c.next.new.self) c.next.ensures.steps)
