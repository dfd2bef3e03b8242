-- The tasks that `pick`, `filter`, `lookup`, `outdated` and `explain` are given (project rules).
use Rattle.std.specs.Prelude.{◌&&◌, ◌∷◌, [], ℕ, Bool, List, None, Option, Some, codes, nat_lt}
use Rattle.std.specs.Prelude.{option_and_then, option_map}
use Rattle.clap.specs.Words.{Row, Text, all_of, first_of}
use Rattle.front_core.specs.Offering.{Offers}
use Rattle.front_core.specs.Preferences.{FieldText}
use Rattle.nego_core.specs.declared.widening.Widening.{Widening}
use Rattle.nego_core.specs.declared.widening.Widening.TheVariants.{By, Off}
use Rattle.command_core.specs.TaskFieldWords.{PreferenceWords, ReaderWords, field_of, offer_words}
use Rattle.command_core.specs.TaskFieldWords.{preference_words, reader_words}

-- what a reader prefers, and the tags among which one is picked
pub record PickWords : Type 0 where
  pub preferences : PreferenceWords
  pub tags : List Text

-- a priority list, and the tags of which all that fit are given
pub record PickAllWords : Type 0 where
  pub field : FieldText
  pub tags : List Text

-- a message, what is offered, and the priority list that filters its labels
pub record FilterWords : Type 0 where
  pub id : Text
  pub offers : Offers
  pub field : FieldText

-- a message, and its reader
pub record LookupWords : Type 0 where
  pub id : Text
  pub reader : ReaderWords

-- a language, and the source that its labels translate
pub record OutdatedWords : Type 0 where
  pub lang : Text
  pub source : Text

-- what `pick` is given; none where a word is missing
abbrev pub pick_words : List Row → Option PickWords
pick_words rows =
    option_and_then
    (λ preferences. option_map (λ tags. record { preferences = preferences; tags = tags })
    (all_of (codes "tags") rows)) (preference_words (codes "ranges") rows)

-- the words where there is no widening, no table of fallbacks and no default, or none
abbrev pub where_plain : Widening → Text → Option Text → PickAllWords → Option PickAllWords
where_plain Off [] None words = Some words
where_plain Off [] (Some default) words = None
where_plain Off (byte ∷ table) default words = None
where_plain (By scheme) table default words = None

-- all tags that fit; none where there is a widening, a table of fallbacks or a default, which do
-- not go with that
abbrev pub pick_all_words : PickWords → Option PickAllWords
pick_all_words words = where_plain words.preferences.field.widening
    words.preferences.field.fallbacks words.preferences.default
    (record { field = words.preferences.field; tags = words.tags })

-- what `filter` is given; none where a word is missing
abbrev pub filter_words : List Row → Option FilterWords
filter_words rows =
    option_and_then
    (λ id. option_map (λ field. record { id = id; offers = offer_words rows; field = field })
    (field_of (codes "field") rows)) (first_of (codes "id") rows)

-- what `lookup` is given; none where a word is missing
abbrev pub lookup_words : List Row → Option LookupWords
lookup_words rows =
    option_and_then
    (λ id. option_map (λ reader. record { id = id; reader = reader }) (reader_words rows))
    (first_of (codes "id") rows)

-- what `outdated` is given; none where a word is missing
abbrev pub outdated_words : List Row → Option OutdatedWords
outdated_words rows =
    option_and_then (λ lang. option_map (λ source. record { lang = lang; source = source })
    (first_of (codes "source") rows)) (first_of (codes "lang") rows)

-- the number of a refusal
abbrev pub is_refusal : ℕ → Bool
is_refusal number = nat_lt 0 number && nat_lt number 32
