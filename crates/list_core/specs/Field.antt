use Rattle.std.specs.Prelude.{ℕ, ◌≡◌, ◌<◌, ◌≤◌, List, ◌++◌, length, [], ◌∷◌, None}
use Rattle.std.specs.Str.{str_to_ascii_lowercase}
use Rattle.lang_core.specs.Grammar.{BasicRange, ExtendedRange}
use Rattle.lang_core.specs.Range.{IsRange}
use Rattle.list_core.specs.Weight.{AreBlanks, IsWeight, IsNoWeight}
use Rattle.list_core.specs.Item.{Item}
use Rattle.list_core.specs.declared.scheme.Scheme.{Scheme}
use Rattle.list_core.specs.declared.scheme.Scheme.TheVariants.{Basic, Extended}
use Rattle.list_core.specs.declared.fault.NegoFault.{NegoFault}
use Rattle.std.specs.Prelude.{◌+◌, ◌⊎◌, sum_by, All}
use Rattle.std.specs.List.{prefix_len}
use Rattle.lang_core.specs.Text.{pieces, pieces_by}
use Rattle.list_core.specs.Weight.{is_blank}
use Rattle.list_core.specs.declared.field.Malformed.{Malformed}
use Rattle.list_core.specs.declared.field.Malformed.TheVariants.{Refused, PassedOver}
use Rattle.list_core.specs.declared.fault.NegoFault.TheVariants.{FieldTooLong, FieldMalformed}
use Rattle.list_core.specs.declared.fault.NegoFault.TheVariants.{FallbackMalformed, NoMemory}

-- which ranges a field has: basic or extended ones (RFC 4647 sections 2.1 and 2.2)
abbrev pub RangeGrammar : Scheme → List (List ℕ) → Type 0
RangeGrammar Basic = BasicRange
RangeGrammar Extended = ExtendedRange

-- after a basic range a weight or none (RFC 9110 section 12.4.2), after an extended one none
-- (project rule)
abbrev pub WeightGrammar : Scheme → List ℕ → ℕ → Type 0
WeightGrammar Basic = IsWeight
WeightGrammar Extended = IsNoWeight

-- RFC 9110 section 12.5.4: language-range [ weight ]. The range alone has at most 255 bytes. It
-- lists no texts for lookup.
pub record IsElement (scheme : Scheme) (text : List ℕ) (item : Item) : Type 0 where
  pub range : List ℕ
  pub weight : List ℕ
  pub whole : text ≡ range ++ weight
  pub range_ok : IsRange (RangeGrammar scheme) (str_to_ascii_lowercase range)
  pub range_is : item.range ≡ str_to_ascii_lowercase range
  pub weight_ok : WeightGrammar scheme weight item.weight
  pub unlisted : item.listed ≡ None

-- an element between blanks
pub record IsPadded (scheme : Scheme) (piece : List ℕ) (item : Item) : Type 0 where
  pub before : List ℕ
  pub element : List ℕ
  pub after : List ℕ
  pub whole : piece ≡ before ++ (element ++ after)
  pub before_ok : AreBlanks before
  pub after_ok : AreBlanks after
  pub element_ok : IsElement scheme element item

-- What a piece is that gives no item: blanks (RFC 9110 section 5.6.1); and where malformed pieces
-- are passed over, anything that is no element (a rule of this project: a recipient may recover
-- usable elements, RFC 9110 section 2.4, or disregard the field, section 12.4.1).
abbrev pub GivesNone : Scheme → Malformed → List ℕ → Type 0
GivesNone scheme Refused piece = AreBlanks piece
GivesNone scheme PassedOver piece = (item : Item) → ¬ IsPadded scheme piece item

-- RFC 9110 section 5.6.1: each piece gives none, or is an element between blanks, and the elements
-- give the items in order
abbrev pub ArePieces : Scheme → Malformed → List (List ℕ) → List Item → Type 0
ArePieces scheme malformed [] [] = Unit {0}
ArePieces scheme malformed [] (i ∷ items) = ⊥
ArePieces scheme malformed (p ∷ pieces) [] =
    GivesNone scheme malformed p × ArePieces scheme malformed pieces []
ArePieces scheme malformed (p ∷ pieces) (i ∷ items) =
    (GivesNone scheme malformed p × ArePieces scheme malformed pieces (i ∷ items))
    ⊎ (IsPadded scheme p i × ArePieces scheme malformed pieces items)

-- RFC 9110 section 5.6.1: the bytes are pieces between commas, which give the items
abbrev pub IsField : Scheme → Malformed → List ℕ → List Item → Type 0
IsField scheme malformed bytes items = ArePieces scheme malformed (pieces_by 44 bytes) items

-- RFC 9110 section 12.5.4: Accept-Language = #( language-range [ weight ] )
abbrev pub IsAccept : List ℕ → List Item → Type 0
IsAccept = IsField Basic Refused

-- the same of extended ranges without weights (project rule)
abbrev pub IsAcceptRanges : List ℕ → List Item → Type 0
IsAcceptRanges = IsField Extended Refused

-- A list of one field: all its ranges are basic, or all its weights are full. So no list has a
-- weight 0 beside an extended range.
abbrev pub IsOfOneKind : List Item → Type 0
IsOfOneKind items = All (λ i. BasicRange (pieces i.range)) items ⊎ All (λ i. i.weight ≡ 1000) items

-- the pieces of a field up to one that is not blank
pub record IsReadTo (scheme : Scheme) (malformed : Malformed) (bytes : List ℕ)
    (before : List (List ℕ)) (piece : List ℕ) : Type 0 where
  pub after : List (List ℕ)
  pub items : List Item
  pub whole : pieces_by 44 bytes ≡ before ++ piece ∷ after
  pub before_ok : ArePieces scheme malformed before items
  pub not_blank : ¬ AreBlanks piece

-- the first element that no item fits begins at the offset, after its leading blanks
pub record IsFirstMalformed (scheme : Scheme) (bytes : List ℕ) (offset : ℕ) : Type 0 where
  pub before : List (List ℕ)
  pub piece : List ℕ
  pub read_to : IsReadTo scheme Refused bytes before piece
  pub malformed : (item : Item) → ¬ IsPadded scheme piece item
  pub begins : offset ≡ sum_by (λ p. length p + 1) before + prefix_len is_blank piece

-- an element that some item fits, after pieces that are read
pub record HasElement (scheme : Scheme) (malformed : Malformed) (bytes : List ℕ) : Type 0 where
  pub before : List (List ℕ)
  pub piece : List ℕ
  pub read_to : IsReadTo scheme malformed bytes before piece
  pub item : Item
  pub fits : IsPadded scheme piece item

-- Why the bytes give no list. No malformed element refuses them where such are passed over. Memory
-- can end only where an element was read, and never in place of the limit.
abbrev pub RefusesField : Scheme → Malformed → List ℕ → NegoFault → Type 0
RefusesField scheme malformed bytes FieldTooLong = 65535 < length bytes
RefusesField scheme Refused bytes (FieldMalformed offset) =
    (length bytes ≤ 65535) × IsFirstMalformed scheme bytes offset
RefusesField scheme PassedOver bytes (FieldMalformed offset) = ⊥
RefusesField scheme malformed bytes (FallbackMalformed offset) = ⊥
RefusesField scheme malformed bytes NoMemory =
    (length bytes ≤ 65535) × HasElement scheme malformed bytes
