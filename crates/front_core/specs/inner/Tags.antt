-- The tags that are offered, with what they spell.
use Rattle.std.specs.Prelude.{◌≡◌, ℕ, List}
use Rattle.list_core.specs.Item.{Item}
use Rattle.front_core.specs.Preferences.{Text}
use Rattle.front_core.specs.Tags.{SpellLangs, AreLangs, offered_tags}

-- each tag spells a language, and these are those that are offered, with what they spell
abbrev pub AreOffered : List Item → List Text → List Text → List (List ℕ) → Type 0
AreOffered items tags names langs =
    AreLangs tags × (names ≡ offered_tags items tags) × SpellLangs names langs
