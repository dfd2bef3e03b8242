use Rattle.std.proofs.Common.{ℕ, List, subst}
use Rattle.std.specs.Option.{option_copied, option_to_list}
use Rattle.lang_core.specs.Text.{pieces}
use Rattle.lang_core.specs.Parts.{IsPart, region_of}
use Rattle.lang_core.proofs.tag.Tag.region.Goals as goal

pub returns : goal.returns
returns c =
    subst (λ (text : List ℕ). IsPart (pieces text) region_of
    (option_to_list (option_copied c.region.result))) c.as_str.ensures.text c.region.ensures
