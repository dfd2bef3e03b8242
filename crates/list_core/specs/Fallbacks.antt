-- Tables of fallbacks, and the texts that lookup tries by them (project rules).
use Rattle.std.specs.Prelude.{ℕ, zero, suc, ◌≡◌, ◌≢◌, ◌<◌, ◌≤◌, ◌+◌, ◌-◌, ◌==◌, ◌||◌, not, Bool}
use Rattle.std.specs.Prelude.{List, [], ◌∷◌, ◌++◌, Option, Some, None, ◌⊎◌, AllPairs, drop, filter}
use Rattle.std.specs.Prelude.{if◌then◌else◌, length, map, position, reverse, sum_by, take, IsTrue}
use Rattle.std.specs.List.{list_any}
use Rattle.std.specs.Str.{bytes_eq, str_to_ascii_lowercase}
use Rattle.lang_core.specs.Text.{joined, pieces, pieces_by}
use Rattle.lang_core.specs.Tag.{IsTag}
use Rattle.lang_core.specs.LookupText.{lookup_text}
use Rattle.lang_core.specs.TruncationsCandidates.{candidates}
use Rattle.list_core.specs.Weight.{is_blank}
use Rattle.list_core.specs.Field.{IsField}
use Rattle.list_core.specs.Item.{Item}
use Rattle.list_core.specs.declared.field.Malformed.{Malformed}
use Rattle.list_core.specs.declared.scheme.Scheme.{Scheme}
use Rattle.list_core.specs.declared.fallbacks.Fallback.{Fallback}
use Rattle.list_core.specs.declared.fault.NegoFault.{NegoFault}
use Rattle.list_core.specs.declared.fault.NegoFault.TheVariants.{FieldTooLong, FieldMalformed}
use Rattle.list_core.specs.declared.fault.NegoFault.TheVariants.{FallbackMalformed, NoMemory}

-- ---- what a table is

-- what may be around an element: a space, a tab, CR or LF
abbrev pub is_gap : ℕ → Bool
is_gap b = is_blank b || ((b == 13) || (b == 10))

-- a text without the gaps at its front
abbrev pub skip_gaps : List ℕ → List ℕ
skip_gaps [] = []
skip_gaps (b ∷ text) = if is_gap b then skip_gaps text else b ∷ text

-- a text without the gaps at its end
abbrev pub trim_end : List ℕ → List ℕ
trim_end text = reverse (skip_gaps (reverse text))

-- a text in any case spells a tag
abbrev pub SpellsTag : List ℕ → List ℕ → Type 0
SpellsTag text tag = IsTag (str_to_ascii_lowercase text) × (tag ≡ str_to_ascii_lowercase text)

-- TAG=TAG: what comes before the first "=" and what comes after it spell tags
abbrev pub IsFallback : List ℕ → Fallback → Type 0
IsFallback text f =
    (at : ℕ) × (position (λ b. b == 61) text ≡ Some at) × SpellsTag (take at text) f.left
    × SpellsTag (drop (at + 1) text) f.right

-- the text of an element that is between two commas
abbrev pub element_text : List ℕ → List ℕ
element_text piece = trim_end (skip_gaps piece)

-- each piece is empty but for gaps, or an element, and these are the elements in order
abbrev pub AreFallbacks : List (List ℕ) → List Fallback → Type 0
AreFallbacks [] [] = Unit {0}
AreFallbacks [] (f ∷ elements) = ⊥
AreFallbacks (p ∷ pieces) [] = (skip_gaps p ≡ []) × AreFallbacks pieces []
AreFallbacks (p ∷ pieces) (f ∷ elements) =
    ((skip_gaps p ≡ []) × AreFallbacks pieces (f ∷ elements))
    ⊎ (IsFallback (element_text p) f × AreFallbacks pieces elements)

-- no two elements have one left side
abbrev pub AreDistinct : List Fallback → Type 0
AreDistinct elements = AllPairs (λ e f. e.left ≢ f.left) elements

-- the elements of a table between commas
abbrev pub IsTable : List ℕ → List Fallback → Type 0
IsTable bytes elements = AreFallbacks (pieces_by 44 bytes) elements × AreDistinct elements

-- the first element that is no TAG=TAG, or has the left side of an earlier one, begins at this
-- offset
pub record IsFirstBad (bytes : List ℕ) (offset : ℕ) : Type 0 where
  pub before : List (List ℕ)
  pub piece : List ℕ
  pub after : List (List ℕ)
  pub elements : List Fallback
  pub whole : pieces_by 44 bytes ≡ before ++ piece ∷ after
  pub read : AreFallbacks before elements
  pub distinct : AreDistinct elements
  pub some : 0 < length (skip_gaps piece)
  pub bad : (f : Fallback) → IsFallback (element_text piece) f
      → IsTrue (list_any (λ e. bytes_eq e.left f.left) elements)
  pub begins : offset
      ≡ sum_by (λ p. length p + 1) before + (length piece - length (skip_gaps piece))

-- why a text is no table
abbrev pub RefusesTable : List ℕ → NegoFault → Type 0
RefusesTable bytes FieldTooLong = 65535 < length bytes
RefusesTable bytes (FallbackMalformed offset) = (length bytes ≤ 65535) × IsFirstBad bytes offset
RefusesTable bytes (FieldMalformed offset) = ⊥
RefusesTable bytes NoMemory = length bytes ≤ 65535

-- ---- what lookup tries by a table

-- the right side of the element with this left side
abbrev pub right_of : List Fallback → List ℕ → Option (List ℕ)
right_of [] text = None
right_of (f ∷ elements) text = if bytes_eq f.left text then Some f.right else right_of elements text

-- the elements but the one with this left side
abbrev pub without : List ℕ → List Fallback → List Fallback
without text elements = filter (λ f. not (bytes_eq f.left text)) elements

-- a text and its truncations as far as the first with an element, after which comes what follows
-- the right side of that by the other elements
abbrev pub along : (List Fallback → List (List (List ℕ)) → List (List (List ℕ)))
    → List Fallback → List (List (List ℕ)) → List (List (List ℕ))
along next elements [] = []
along next elements (c ∷ more) =
    c ∷ after (along next elements more) (right_of elements (joined c)) where
      after : List (List (List ℕ)) → Option (List ℕ) → List (List (List ℕ))
      after rest None = rest
      after rest (Some right) = next (without (joined c) elements) (candidates (pieces right))

-- the same for at most so many elements
abbrev pub walk : ℕ → List Fallback → List (List (List ℕ)) → List (List (List ℕ))
walk zero elements texts = texts
walk (suc n) elements texts = along (walk n) elements texts

-- whether a text is one of some
abbrev pub is_in : List (List ℕ) → List ℕ → Bool
is_in texts text = list_any (λ other. bytes_eq other text) texts

-- those of the texts that are not among some, nor among those before them
abbrev pub fresh : List (List ℕ) → List (List ℕ) → List (List ℕ)
fresh seen [] = []
fresh seen (text ∷ texts) = if is_in seen text then
    fresh seen texts else text ∷ fresh (seen ++ text ∷ []) texts

-- The texts that lookup tries for a text: itself; then, if an element with this left side was not
-- used before, its right side, else what RFC 4647 section 3.4 truncates the text to; and so on. A
-- text that was tried is passed over.
abbrev pub chain_of : List Fallback → List ℕ → List (List ℕ)
chain_of elements text =
    fresh [] (map joined (walk (length elements) elements (candidates (pieces text))))

-- an item whose lookup goes by a table; one without elements changes nothing
abbrev pub with_fallbacks : List Fallback → Item → Item
with_fallbacks [] i = i
with_fallbacks (f ∷ elements) i =
    record i { listed = Some (chain_of (f ∷ elements) (lookup_text i.range)) }

-- the items of a field, whose lookup goes by a table
abbrev pub IsFieldBy : List Fallback → Scheme → Malformed → List ℕ → List Item → Type 0
IsFieldBy table scheme malformed bytes list =
    (items : List Item) × IsField scheme malformed bytes items
    × (list ≡ map (with_fallbacks table) items)
