use Rattle.std.proofs.Common.{ℕ, List, subst}
use Rattle.std.specs.Option.{option_copied, option_to_list}
use Rattle.lang_core.specs.Text.{pieces}
use Rattle.lang_core.specs.Parts.{IsPart, language_of}
use Rattle.lang_core.proofs.tag.Tag.language.Goals as goal

pub returns : goal.returns
returns c =
    subst (λ (text : List ℕ). IsPart (pieces text) language_of
    (option_to_list (option_copied c.language.result))) c.as_str.ensures.text c.language.ensures
