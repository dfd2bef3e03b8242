use Rattle.std.proofs.Common.{ℕ, List, subst}
use Rattle.lang_core.specs.Text.{pieces}
use Rattle.lang_core.specs.Subtags.{subtags_left}
use Rattle.lang_core.specs.Parts.{IsPart, extlangs_of}
use Rattle.lang_core.proofs.tag.Tag.extlangs.Goals as goal

pub returns : goal.returns
returns c =
    subst (λ (text : List ℕ). IsPart (pieces text) extlangs_of (subtags_left c.extlangs.result))
    c.as_str.ensures.text c.extlangs.ensures
