-- A field as it is read: ranges up to their ends, and what is between elements.
use Rattle.std.specs.Prelude.{ℕ, ◌≡◌, ◌<◌, ◌≤◌, ◌==◌, ◌&&◌, not, Bool, IsTrue, List, ◌++◌, length}
use Rattle.std.specs.Prelude.{false, take, drop, [], ◌∷◌}
use Rattle.std.specs.Prelude.{Option, Some, None, Result, Ok, Err}
use Rattle.std.specs.Str.{str_to_ascii_lowercase}
use Rattle.std.specs.List.{list_all}
use Rattle.lang_core.specs.Range.{IsRange}
use Rattle.lang_core.specs.declared.fault.LangFault.{LangFault}
use Rattle.lang_core.specs.declared.fault.LangFault.TheVariants as lang
use Rattle.list_core.specs.inner.Weight.{is_plain, EndsPlain, IsTail}
use Rattle.list_core.specs.Item.{Item}
use Rattle.list_core.specs.Field.{RangeGrammar, WeightGrammar}
use Rattle.list_core.specs.declared.scheme.Scheme.{Scheme}
use Rattle.list_core.specs.declared.fault.NegoFault.{NegoFault}
use Rattle.list_core.specs.declared.fault.NegoFault.TheVariants as nego
use Rattle.std.specs.Prelude.{◌⊎◌, ◌||◌, if◌then◌else◌}
use Rattle.lang_core.specs.Text.{pieces_by}
use Rattle.list_core.specs.Weight.{is_blank}

-- ---- the parts of an element, from left to right

-- a range and what follows it, without blanks before it
pub record IsStart (scheme : Scheme) (text : List ℕ) (item : Item) : Type 0 where
  pub range : List ℕ
  pub rest : List ℕ
  pub whole : text ≡ range ++ rest
  pub range_ok : IsRange (RangeGrammar scheme) (str_to_ascii_lowercase range)
  pub range_is : item.range ≡ str_to_ascii_lowercase range
  pub rest_ok : IsTail (WeightGrammar scheme) rest item.weight
  pub unlisted : item.listed ≡ None

-- a text is a range and what may follow it, without blanks before it
abbrev pub HasStart : Scheme → List ℕ → Type 0
HasStart scheme text = (item : Item) × IsStart scheme text item

-- what ends no range: neither a stop nor a comma
abbrev pub is_inner : ℕ → Bool
is_inner b = is_plain b && not (b == 44)

-- a text begins with what ends a range, or is empty
abbrev pub EndsInner : List ℕ → Type 0
EndsInner [] = Unit {0}
EndsInner (b ∷ text) = is_inner b ≡ false

-- so many bytes at the front end no range, where of more than a range has only one more is counted
pub record IsRangeEnd (text : List ℕ) (end : ℕ) : Type 0 where
  pub within : end ≤ length text
  pub most : end ≤ 256
  pub inner : IsTrue (list_all is_inner (take end text))
  pub ends : end < 256 → EndsInner (drop end text)

-- bytes that end no range, and what follows them, where they are not more than a range has
pub record IsBegun (range tail : List ℕ) : Type 0 where
  pub inner : IsTrue (list_all is_inner range)
  pub ends : length range < 256 → EndsPlain tail

-- more bytes than a range has are at the front before one could end
abbrev pub BeginsOverlong : List ℕ → Type 0
BeginsOverlong text = (255 < length text) × IsTrue (list_all is_inner (take 256 text))

-- what a parser of ranges says of a text: no item fits it where it is no range
abbrev pub fitting_range : Result (List ℕ) LangFault → Result (Option (List ℕ)) NegoFault
fitting_range (Ok range) = Ok (Some range)
fitting_range (Err lang.NoMemory) = Err nego.NoMemory
fitting_range (Err _) = Ok None

-- ---- from element to element

-- what comes between two elements beside empty ones: RFC 9110 section 5.6.1, OWS "," OWS
abbrev pub is_separator : ℕ → Bool
is_separator b = (b == 44) || is_blank b

-- a text without the separators at its front
abbrev pub skip_separators : List ℕ → List ℕ
skip_separators [] = []
skip_separators (b ∷ text) = if is_separator b then skip_separators text else b ∷ text

-- a text up to its first comma, and what follows that comma, if there is one
abbrev pub IsFirstPiece : List ℕ → List ℕ → List ℕ → Type 0
IsFirstPiece text piece after =
    (pieces_by 44 text ≡ piece ∷ pieces_by 44 after)
    ⊎ ((pieces_by 44 text ≡ piece ∷ []) × (after ≡ []))
