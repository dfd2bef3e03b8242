-- A reader of a site: what is offered to it, and what it prefers of that (project rules).
use Rattle.std.specs.Prelude.{◌⊎◌, Option}
use Rattle.front_core.specs.Fault.{IsOf, field_fault, language_fault}
use Rattle.front_core.specs.Offering.{HasOffer, IsOffer, Offers, RefusesOffer}
use Rattle.front_core.specs.Preferences.{ArePreferences, FieldText, HasDefault, RefusesDefault}
use Rattle.front_core.specs.Preferences.{HasPreferences, RefusesRanges, Text}
use Rattle.front_core.specs.declared.fault.FrontFault.{FrontFault}
use Rattle.front_core.specs.declared.reader.Reader.{Reader}

-- the offer, and the preferences of the field and the default
abbrev pub IsReader : Offers → FieldText → Option Text → Reader → Type 0
IsReader offers field word asked =
    IsOffer offers asked.offer × ArePreferences field word asked.preferences

-- the offer has items, the field is read as some list, and there is no default, or it spells a
-- language
abbrev pub HasReader : Offers → FieldText → Option Text → Type 0
HasReader offers field word = HasOffer offers × HasPreferences field word

-- the default is refused first, then the offer, and then the field
abbrev pub RefusesReader : Offers → FieldText → Option Text → FrontFault → Type 0
RefusesReader offers field word fault =
    IsOf language_fault (RefusesDefault word) fault
    ⊎ (HasDefault word × (IsOf field_fault (RefusesOffer offers) fault
    ⊎ (HasOffer offers × IsOf field_fault (RefusesRanges field) fault)))
