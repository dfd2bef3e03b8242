use Rattle.std.specs.Prelude.{ℕ, ◌≡◌, ◌<◌, List, [], length, IsTrue}
use Rattle.lang_core.specs.Text.{pieces, IsSized}
use Rattle.lang_core.specs.LowerText.{TakesMemory}
use Rattle.lang_core.specs.Grammar.{WellFormed, are_allowed, IsFirstRefused, tag_piece}
use Rattle.lang_core.specs.declared.fault.LangFault.{LangFault}
use Rattle.lang_core.specs.declared.fault.LangFault.TheVariants.{TagEmpty, TagTooLong, TagSubtag}
use Rattle.lang_core.specs.declared.fault.LangFault.TheVariants.{TagNotWellFormed, RangeEmpty}
use Rattle.lang_core.specs.declared.fault.LangFault.TheVariants.{RangeTooLong, RangeSubtag}
use Rattle.lang_core.specs.declared.fault.LangFault.TheVariants.{NoMemory}

-- each piece of the text is 1 to 8 letters or digits
abbrev pub HasSubtags : List ℕ → Type 0
HasSubtags text = IsTrue (are_allowed tag_piece 0 (pieces text))

-- a text in lower case is a tag: the three things that are asked of it, in the order of the
-- refusals
abbrev pub IsTag : List ℕ → Type 0
IsTag text = IsSized text × HasSubtags text × WellFormed (pieces text)

-- why a text in lower case is no tag, or that it is one and there was no memory for it
abbrev pub RefusesTag : List ℕ → LangFault → Type 0
RefusesTag text TagEmpty = text ≡ []
RefusesTag text TagTooLong = 255 < length text
RefusesTag text (TagSubtag offset) = IsSized text × IsFirstRefused tag_piece (pieces text) offset
RefusesTag text TagNotWellFormed = IsSized text × HasSubtags text × ¬ WellFormed (pieces text)
RefusesTag text RangeEmpty = ⊥
RefusesTag text RangeTooLong = ⊥
RefusesTag text (RangeSubtag offset) = ⊥
RefusesTag text NoMemory = IsTag text × TakesMemory text
