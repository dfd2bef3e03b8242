-- What a reader prefers: the ranges of a field, with how it is read, and a default where there is
-- one.
use Rattle.std.specs.Prelude.{◌≤◌, ℕ, List, length, ◌≡◌, ◌⊎◌, Option, None, Some}
use Rattle.lang_core.specs.Lang.{SpellsLang, RefusesLang}
use Rattle.lang_core.specs.declared.fault.LangFault.{LangFault}
use Rattle.list_core.specs.Fallbacks.{IsFieldBy, IsTable, RefusesTable}
use Rattle.list_core.specs.Field.{RefusesField}
use Rattle.list_core.specs.Item.{Item}
use Rattle.list_core.specs.declared.fallbacks.Fallback.{Fallback}
use Rattle.list_core.specs.declared.fault.NegoFault.{NegoFault}
use Rattle.list_core.specs.declared.field.Malformed.{Malformed}
use Rattle.list_core.specs.declared.scheme.Scheme.{Scheme}
use Rattle.nego_core.specs.declared.widening.Widening.{Widening}
use Rattle.front_core.specs.Fault.{IsOf, field_fault, language_fault}
use Rattle.front_core.specs.declared.preferences.Field.{Field}
use Rattle.front_core.specs.declared.fault.FrontFault.{FrontFault}
use Rattle.front_core.specs.declared.preferences.Preferences.{Preferences}

-- the bytes of a text that is passed in
abbrev pub Text : Type 0
Text = List ℕ

-- a field's bytes, the scheme of its ranges, what malformed elements do, how lookup widens, and the
-- bytes of the table of fallbacks by which it goes
pub record FieldText : Type 0 where
  pub scheme : Scheme
  pub malformed : Malformed
  pub widening : Widening
  pub fallbacks : Text
  pub text : Text

-- what is passed in, as values
abbrev pub field_text : Field → FieldText
field_text field = record {
  scheme = field.scheme;
  malformed = field.malformed;
  widening = field.widening;
  fallbacks = field.fallbacks.now;
  text = field.text.now;
}

-- the table that a text of fallbacks is read as
abbrev pub IsTableText : Text → List Fallback → Type 0
IsTableText text table = (length text ≤ 65535) × IsTable text table

-- the text is read as some table
abbrev pub HasTable : Text → Type 0
HasTable text = (table : List Fallback) × IsTableText text table

-- the list that it is read as: an Accept-Language field (RFC 9110 section 12.5.4), or extended
-- ranges without weights (RFC 4647 section 2.2), whose malformed elements refuse it or are
-- skipped; its lookup goes by the table
pub record ReadsAs (field : FieldText) (list : List Item) : Type 0 where
  pub table : List Fallback
  pub table_ok : IsTableText field.fallbacks table
  pub short : length field.text ≤ 65535
  pub list_ok : IsFieldBy table field.scheme field.malformed field.text list

-- the field is read as some list
abbrev pub HasList : FieldText → Type 0
HasList field = (list : List Item) × ReadsAs field list

-- why it is no list: the table is refused first, and then the field
abbrev pub RefusesRanges : FieldText → NegoFault → Type 0
RefusesRanges field fault = RefusesTable field.fallbacks fault
    ⊎ (HasTable field.fallbacks × RefusesField field.scheme field.malformed field.text fault)

-- the language of the default, or none where there is no default
abbrev pub IsDefault : Option Text → Option (List ℕ) → Type 0
IsDefault None default = default ≡ None
IsDefault (Some word) None = ⊥
IsDefault (Some word) (Some lang) = SpellsLang word lang

-- there is no default, or it spells a language
abbrev pub HasDefault : Option Text → Type 0
HasDefault word = (default : Option (List ℕ)) × IsDefault word default

-- why it is no language
abbrev pub RefusesDefault : Option Text → LangFault → Type 0
RefusesDefault None fault = ⊥
RefusesDefault (Some word) fault = RefusesLang word fault

-- the list of the field and the language of the default, with the field's widening
abbrev pub ArePreferences : FieldText → Option Text → Preferences → Type 0
ArePreferences field word asked =
    ReadsAs field asked.list × IsDefault word asked.default × (asked.widening ≡ field.widening)

-- the field is read as some list, and there is no default, or it spells a language
abbrev pub HasPreferences : FieldText → Option Text → Type 0
HasPreferences field word = HasDefault word × HasList field

-- the default is refused first, then the table of fallbacks, and then the field
abbrev pub RefusesPreferences : FieldText → Option Text → FrontFault → Type 0
RefusesPreferences field word fault =
    IsOf language_fault (RefusesDefault word) fault
    ⊎ (HasDefault word × IsOf field_fault (RefusesRanges field) fault)
