use Rattle.lang_core.specs.Text.{pieces}
use Rattle.lang_core.specs.Grammar.{is_region}
use Rattle.lang_core.specs.Subtags.{subtags_left}
use Rattle.lang_core.specs.Parts.{region_of}
use Rattle.lang_core.proofs.PartsLemmas.{region_part, only_one, first_is}
use Rattle.lang_core.proofs.parts.region.Goals as goal

pub returns : goal.returns
returns c =
    only_one (pieces c.args.tag.now) region_of is_region (subtags_left c.split_run.result.0) _
    (λ t. t.region_ok) (region_part _ _ _ _ c.after_script.ensures c.split_run.ensures).0
    (first_is _ c.next.result (subtags_left c.next.new.self) c.next.ensures.steps)
