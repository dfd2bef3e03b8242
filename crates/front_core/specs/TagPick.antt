-- A pick: lookup (RFC 4647 section 3.4), or widened lookup, of a priority list over the languages
-- that tags spell.
use Rattle.std.specs.Prelude.{◌≡◌, ◌⊎◌, ℕ, List, ◌++◌, Option, None, Some, codes}
use Rattle.lang_core.specs.Lang.{SpellsLang}
use Rattle.lang_core.specs.Text.{pieces}
use Rattle.nego_core.specs.Choosing.{HasOpenDefault, IsOpenDefault, IsFirst}
use Rattle.nego_core.specs.LangSet.{is_among}
use Rattle.list_core.specs.Item.{Item}
use Rattle.nego_core.specs.Shortlist.{IsLookedUpBy}
use Rattle.nego_core.specs.declared.widening.Widening.{Widening}
use Rattle.front_core.specs.Fault.{IsOf, language_fault}
use Rattle.front_core.specs.Preferences.{FieldText, ReadsAs, Text, HasPreferences, IsDefault}
use Rattle.front_core.specs.Offering.{IsOffer, Offers}
use Rattle.front_core.specs.Preferences.{RefusesPreferences}
use Rattle.front_core.specs.Reader.{HasReader, RefusesReader}
use Rattle.front_core.specs.Tags.{AreLangs, RefusesTags, SpellLangs, offered_tags}
use Rattle.front_core.specs.declared.answer.Answer.{Answer}
use Rattle.front_core.specs.declared.answer.Outcome.{Outcome}
use Rattle.front_core.specs.declared.fault.FrontFault.{FrontFault}
use Rattle.front_core.specs.declared.tag_pick.Picked.{Picked}
use Rattle.front_core.specs.declared.words.Finding.{Finding}
use Rattle.front_core.specs.declared.words.Finding.TheVariants.{Matched, Default, Nothing}
use Rattle.front_core.specs.declared.answer.Outcome.TheVariants as outcome
use Rattle.front_core.specs.declared.tag_pick.Picked.TheVariants as picked

-- the same by its text, or the default where it finds none
abbrev pub Finds : Widening → List Item → List (List ℕ) → Option (List ℕ) → Finding → Type 0
Finds widening list langs default (Matched lang) =
    IsLookedUpBy widening list langs (Some (pieces lang))
Finds widening list langs default (Default lang) =
    IsLookedUpBy widening list langs None × (default ≡ Some lang)
    × IsOpenDefault list (is_among langs) lang
Finds widening list langs default Nothing =
    IsLookedUpBy widening list langs None × ¬ HasOpenDefault list (is_among langs) default

-- what a field finds among the tags
pub record IsPicked (field : FieldText) (word : Option Text) (tags : List Text) (found : Finding) :
    Type 0 where
  pub default : Option (List ℕ)
  pub list : List Item
  pub langs : List (List ℕ)
  pub default_ok : IsDefault word default
  pub list_ok : ReadsAs field list
  pub langs_ok : SpellLangs tags langs
  pub found_ok : Finds field.widening list langs default found

-- the first of the tags that spell the language that is found
abbrev pub IsPickedTag : FieldText → Option Text → List Text → Picked → Type 0
IsPickedTag field word tags (picked.Matched tag) = (lang : List ℕ)
    × IsPicked field word tags (Matched lang) × IsFirst (λ t. SpellsLang t lang) tags tag.now
IsPickedTag field word tags (picked.Default tag) = (lang : List ℕ)
    × IsPicked field word tags (Default lang) × IsFirst (λ t. SpellsLang t lang) tags tag.now
IsPickedTag field word tags picked.Nothing = IsPicked field word tags Nothing

-- each tag spells a language, and this is picked among those that are offered
abbrev pub IsPickedOffered : Offers → FieldText → Option Text → List Text → Picked → Type 0
IsPickedOffered offers field word tags picked = AreLangs tags
    × ((items : List Item) × IsOffer offers items
    × IsPickedTag field word (offered_tags items tags) picked)

-- the default is refused first, then the field, and then the tags
abbrev pub RefusesPick : FieldText → Option Text → List Text → FrontFault → Type 0
RefusesPick field word tags fault = RefusesPreferences field word fault
    ⊎ (HasPreferences field word × IsOf language_fault (RefusesTags tags) fault)

-- the default is refused first, then the offer, then the field, and then the tags, also those that
-- are not offered
abbrev pub RefusesPickOffered : Offers → FieldText → Option Text → List Text → FrontFault → Type 0
RefusesPickOffered offers field word tags fault = RefusesReader offers field word fault
    ⊎ (HasReader offers field word × IsOf language_fault (RefusesTags tags) fault)

-- the pick line (project rule)
abbrev pub pick_line : Finding → List ℕ
pick_line (Matched lang) = codes "matched " ++ lang ++ codes "\n"
pick_line (Default lang) = codes "default " ++ lang ++ codes "\n"
pick_line Nothing = codes "nothing\n"

-- whether a tag is found, or the default
abbrev pub pick_outcome : Finding → Outcome
pick_outcome (Matched lang) = outcome.Found
pick_outcome (Default lang) = outcome.Found
pick_outcome Nothing = outcome.Nothing

-- the line that says what is picked, and whether anything is
abbrev pub AnswersPick : FieldText → Option Text → List Text → Answer → Type 0
AnswersPick field word tags answer = (found : Finding) × IsPicked field word tags found
    × (answer.text ≡ pick_line found) × (answer.outcome ≡ pick_outcome found)

-- the line alone
abbrev pub IsPickLine : FieldText → Option Text → List Text → List ℕ → Type 0
IsPickLine field word tags line = (found : Finding) × IsPicked field word tags found
    × (line ≡ pick_line found)
