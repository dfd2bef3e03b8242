use Rattle.std.proofs.Common.{ℕ, List, subst}
use Rattle.lang_core.specs.Text.{pieces}
use Rattle.lang_core.specs.Subtags.{subtags_left}
use Rattle.lang_core.specs.Parts.{IsPart, variants_of}
use Rattle.lang_core.proofs.tag.Tag.variants.Goals as goal

pub returns : goal.returns
returns c =
    subst (λ (text : List ℕ). IsPart (pieces text) variants_of (subtags_left c.variants.result))
    c.as_str.ensures.text c.variants.ensures
