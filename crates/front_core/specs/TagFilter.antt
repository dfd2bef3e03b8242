-- A filter of tags: filtering (RFC 4647 section 3.3) of a priority list over the languages that
-- tags spell.
use Rattle.std.specs.Prelude.{◌≡◌, ◌==◌, ◌⊎◌, ◌++◌, ◌∷◌, [], ℕ, List, codes, decimal, get_or}
use Rattle.std.specs.Prelude.{length, not}
use Rattle.nego_core.specs.Filtering.{IsFiltered}
use Rattle.list_core.specs.Item.{Item}
use Rattle.nego_core.specs.declared.filtering.Pick.{Pick}
use Rattle.query_docs.specs.Lines.{line, listed}
use Rattle.front_core.specs.Fault.{IsOf, field_fault, language_fault}
use Rattle.front_core.specs.Preferences.{FieldText, HasList, ReadsAs, RefusesRanges, Text}
use Rattle.front_core.specs.Ask.{is_found}
use Rattle.front_core.specs.Offering.{HasOffer, IsOffer, Offers, RefusesOffer}
use Rattle.front_core.specs.Tags.{AreLangs, RefusesTags, SpellLangs, offered_tags}
use Rattle.front_core.specs.declared.answer.Answer.{Answer}
use Rattle.front_core.specs.declared.fault.FrontFault.{FrontFault}

-- what a field takes of tags, the best first
pub record AreTaken (field : FieldText) (tags langs : List Text) (picks : List Pick) : Type 0 where
  pub list : List Item
  pub list_ok : ReadsAs field list
  pub langs_ok : SpellLangs tags langs
  pub picks_ok : IsFiltered field.scheme list langs picks

-- `NAME WEIGHT`, by the name at the place of the pick
abbrev pub taken_line : List Text → Pick → List ℕ
taken_line names pick = line (get_or names pick.place [] ++ 32 ∷ decimal pick.weight)

-- `filter N`, then a line for each pick, in their order
abbrev pub taken_lines : List Text → List Pick → List ℕ
taken_lines names picks = listed (codes "filter") (taken_line names) picks

-- the lines of the picks; `filter 0` means that nothing was found
abbrev pub ShowsTaken : List Text → List Pick → Answer → Type 0
ShowsTaken names picks answer = (answer.text ≡ taken_lines names picks)
    × (is_found answer.outcome ≡ not (length picks == 0))

-- each tag as it was given
abbrev pub IsTagFilter : FieldText → List Text → Answer → Type 0
IsTagFilter field tags answer = (langs : List Text) × (picks : List Pick)
    × AreTaken field tags langs picks × ShowsTaken tags picks answer

-- each tag spells a language, and these lines are of those that are offered
abbrev pub IsOfferedFilter : Offers → FieldText → List Text → Answer → Type 0
IsOfferedFilter offers field tags answer = AreLangs tags
    × ((items : List Item) × IsOffer offers items
    × IsTagFilter field (offered_tags items tags) answer)

-- each tag in lower case, which is its language
abbrev pub IsLangFilter : FieldText → List Text → Answer → Type 0
IsLangFilter field tags answer = (langs : List Text) × (picks : List Pick)
    × AreTaken field tags langs picks × ShowsTaken langs picks answer

-- the field is refused first, and then the tags
abbrev pub RefusesTagFilter : FieldText → List Text → FrontFault → Type 0
RefusesTagFilter field tags fault = IsOf field_fault (RefusesRanges field) fault
    ⊎ (HasList field × IsOf language_fault (RefusesTags tags) fault)

-- the offer is refused first, then the field, and then the tags, also those that are not offered
abbrev pub RefusesOfferedFilter : Offers → FieldText → List Text → FrontFault → Type 0
RefusesOfferedFilter offers field tags fault = IsOf field_fault (RefusesOffer offers) fault
    ⊎ (HasOffer offers × RefusesTagFilter field tags fault)
