-- Why a text of a tag's length is no tag.
use Rattle.std.specs.Prelude.{ℕ, List}
use Rattle.lang_core.specs.Text.{pieces}
use Rattle.lang_core.specs.Grammar.{WellFormed, IsFirstRefused, tag_piece}
use Rattle.lang_core.specs.Tag.{HasSubtags}
use Rattle.lang_core.specs.declared.fault.LangFault.{LangFault}
use Rattle.lang_core.specs.declared.fault.LangFault.TheVariants.{TagSubtag, TagNotWellFormed}

-- what of `RefusesTag` needs the pieces
abbrev pub RefusesTagFirst : List ℕ → LangFault → Type 0
RefusesTagFirst text (TagSubtag offset) = IsFirstRefused tag_piece (pieces text) offset
RefusesTagFirst text TagNotWellFormed = HasSubtags text × ¬ WellFormed (pieces text)
RefusesTagFirst text _ = ⊥
