-- Tags that are passed in, and the languages that they spell.
use Rattle.std.specs.Prelude.{◌≡◌, ℕ, List, [], ◌∷◌, ◌++◌, filter}
use Rattle.std.specs.Str.{str_to_ascii_lowercase}
use Rattle.lang_core.specs.Lang.{SpellsLang, RefusesLang}
use Rattle.lang_core.specs.declared.fault.LangFault.{LangFault}
use Rattle.lang_core.specs.declared.fault.LangFault.TheVariants as lang
use Rattle.list_core.specs.Item.{Item}
use Rattle.nego_core.specs.Offer.{is_offered}
use Rattle.front_core.specs.Preferences.{Text}

-- each word spells the language at its place
abbrev pub SpellLangs : List Text → List (List ℕ) → Type 0
SpellLangs [] [] = Unit {0}
SpellLangs [] (lang ∷ langs) = ⊥
SpellLangs (word ∷ words) [] = ⊥
SpellLangs (word ∷ words) (lang ∷ langs) = SpellsLang word lang × SpellLangs words langs

-- each word spells a language
abbrev pub AreLangs : List Text → Type 0
AreLangs words = (langs : List (List ℕ)) × SpellLangs words langs

-- the words up to one that spells no language, and why it spells none
pub record HasNoLang (tags : List Text) (fault : LangFault) : Type 0 where
  pub before : List Text
  pub word : Text
  pub after : List Text
  pub langs : List (List ℕ)
  pub whole : tags ≡ before ++ word ∷ after
  pub before_ok : SpellLangs before langs
  pub word_not : RefusesLang word fault

-- why the tags are refused: the first word that spells no language, or memory ended
abbrev pub RefusesTags : List Text → LangFault → Type 0
RefusesTags tags lang.NoMemory = Unit {0}
RefusesTags tags fault = HasNoLang tags fault

-- the tags that are offered, as they are
abbrev pub offered_tags : List Item → List Text → List Text
offered_tags items tags = filter (λ tag. is_offered items (str_to_ascii_lowercase tag)) tags
