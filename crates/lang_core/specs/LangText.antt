use Rattle.std.specs.Prelude.{ℕ, List}
use Rattle.lang_core.specs.Tag.{IsTag}
use Rattle.lang_core.specs.Lang.{none_text}
use Rattle.lang_core.specs.declared.lang.Choice.{Choice}
use Rattle.lang_core.specs.declared.lang.Choice.TheVariants.{Tagged, NoLanguage}

-- the text of a language
abbrev pub choice_text : Choice → List ℕ
choice_text (Tagged tag) = tag
choice_text NoLanguage = none_text

-- the tag of a language is one
abbrev pub HoldsTag : Choice → Type 0
HoldsTag (Tagged tag) = IsTag tag
HoldsTag NoLanguage = Unit {0}
