-- How the words of a command say that a field is read, and what they prefer (project rules).
use Rattle.std.specs.Prelude.{[], Bool, false, List, Option, None, Some, codes, option_map}
use Rattle.std.specs.Prelude.{if◌then◌else◌}
use Rattle.std.specs.Str.{bytes_eq}
use Rattle.clap.specs.Words.{Row, Text, first_of}
use Rattle.front_core.specs.Offering.{Offers, Items}
use Rattle.front_core.specs.Offering as offers
use Rattle.front_core.specs.Preferences.{FieldText}
use Rattle.list_core.specs.declared.field.Malformed.{Malformed}
use Rattle.list_core.specs.declared.field.Malformed.TheVariants.{Refused, PassedOver}
use Rattle.list_core.specs.declared.scheme.Scheme.{Scheme}
use Rattle.list_core.specs.declared.scheme.Scheme.TheVariants.{Basic, Extended}
use Rattle.nego_core.specs.Offer.{all_items}
use Rattle.nego_core.specs.declared.widening.Widening.{Widening}
use Rattle.nego_core.specs.declared.widening.Widening.TheVariants.{By, Off}

-- the scheme of a word; where there is none, the basic one
abbrev pub scheme_of : Option Text → Scheme
scheme_of None = Basic
scheme_of (Some word) = if bytes_eq word (codes "extended") then Extended else Basic

-- whether an option without a value is given: it has the text "true" then, and else "false"
abbrev pub is_given : Option Text → Bool
is_given None = false
is_given (Some word) = bytes_eq word (codes "true")

-- what becomes of malformed elements
abbrev pub malformed_of : Bool → Malformed
malformed_of lenient = if lenient then PassedOver else Refused

-- whether a range also finds what it matches by the scheme
abbrev pub widening_of : Bool → Scheme → Widening
widening_of widens scheme = if widens then By scheme else Off

-- the table of fallbacks that is given; where there is none, one without bytes
abbrev pub fallbacks_of : Option Text → Text
fallbacks_of None = []
fallbacks_of (Some table) = table

-- the field of this argument, or none where it is missing
abbrev pub field_of : Text → List Row → Option FieldText
field_of id rows = option_map (λ text. record {
  scheme = scheme_of (first_of (codes "scheme") rows);
  malformed = malformed_of (is_given (first_of (codes "lenient") rows));
  widening = widening_of (is_given (first_of (codes "widen") rows))
      (scheme_of (first_of (codes "scheme") rows));
  fallbacks = fallbacks_of (first_of (codes "fallbacks") rows);
  text = text;
}) (first_of id rows)

-- what a reader prefers: the ranges of a field, and a default where there is one
pub record PreferenceWords : Type 0 where
  pub field : FieldText
  pub default : Option Text

-- these, or none where the field is missing
abbrev pub preference_words : Text → List Row → Option PreferenceWords
preference_words id rows = option_map (λ field. record {
  field = field;
  default = first_of (codes "default") rows;
}) (field_of id rows)

-- what is offered: the languages of `--offer`, or all
abbrev pub offer_of : Option Text → Offers
offer_of None = Items all_items
offer_of (Some text) = offers.Text text

-- the same of the words of a command
abbrev pub offer_words : List Row → Offers
offer_words rows = offer_of (first_of (codes "offer") rows)

-- a reader: what is offered to it, and what it prefers of that
pub record ReaderWords : Type 0 where
  pub offers : Offers
  pub preferences : PreferenceWords

-- these, or none where the field is missing
abbrev pub reader_words : List Row → Option ReaderWords
reader_words rows = option_map (λ preferences. record {
  offers = offer_words rows;
  preferences = preferences;
}) (preference_words (codes "field") rows)
