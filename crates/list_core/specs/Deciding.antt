use Rattle.std.specs.Prelude.{ℕ, ◌≡◌, ◌≤◌, ◌<◌, not, Bool, List, [], ◌∷◌, Some, IsSomeAnd, filter}
use Rattle.std.specs.Prelude.{Option, MatchOption}
use Rattle.std.specs.Str.{bytes_eq}
use Rattle.std.specs.List.{slice_get}
use Rattle.lang_core.specs.Text.{pieces}
use Rattle.lang_core.specs.Lang.{tag_of}
use Rattle.lang_core.specs.Matching.{Basic, Extended, specificity}
use Rattle.list_core.specs.Item.{Item}
use Rattle.list_core.specs.declared.scheme.Scheme.{Scheme}
use Rattle.list_core.specs.declared.scheme.Scheme.TheVariants as scheme
use Rattle.list_core.specs.declared.deciding.MostSpecific.{MostSpecific}

-- how a range matches a tag: RFC 4647 sections 3.3.1 and 3.3.2
abbrev pub Matches : Scheme → List (List ℕ) → List (List ℕ) → Type 0
Matches scheme.Basic = Basic
Matches scheme.Extended = Extended

-- the range of the item matches the language: none matches "@none"
abbrev pub MatchesLang : Scheme → Item → List ℕ → Type 0
MatchesLang scheme i lang =
    IsSomeAnd (tag_of lang) (λ tag. Matches scheme (pieces i.range) (pieces tag))

-- Of the items that fit, the one with the most subtags other than "*", the first written among
-- equals (project rule).
pub record IsMostSpecific (Fits : Item → Type 0) (items : List Item) (place : ℕ) : Type 0 where
  pub item : Item
  pub stands : slice_get items place ≡ Some item
  pub fits : Fits item
  pub most : (k : ℕ) (other : Item) → slice_get items k ≡ Some other → Fits other
      → specificity (pieces other.range) ≤ specificity (pieces item.range)
  pub first : (k : ℕ) (other : Item) → k < place → slice_get items k ≡ Some other → Fits other
      → specificity (pieces other.range) < specificity (pieces item.range)

-- the place of the item that decides a tag
abbrev pub IsDeciding : Scheme → List Item → List (List ℕ) → ℕ → Type 0
IsDeciding scheme items tag = IsMostSpecific (λ i. Matches scheme (pieces i.range) tag) items

-- the same, and the item's weight
abbrev pub IsDecidedBy : Scheme → List Item → List (List ℕ) → ℕ → ℕ → Type 0
IsDecidedBy scheme items tag place weight =
    (d : IsDeciding scheme items tag place) × (d.item.weight ≡ weight)

-- the weight of the item that decides a tag, at whatever place
abbrev pub IsDecidingWeight : Scheme → List Item → List (List ℕ) → ℕ → Type 0
IsDecidingWeight scheme items tag weight = (place : ℕ) × IsDecidedBy scheme items tag place weight

-- the same of a language: none decides "@none" (project rule)
abbrev pub DecidesLang : Scheme → List Item → List ℕ → ℕ → ℕ → Type 0
DecidesLang scheme items lang place weight =
    IsSomeAnd (tag_of lang) (λ tag. IsDecidedBy scheme items (pieces tag) place weight)

-- the deciding item of the language has weight 0: "@none" is never refused (project rule)
abbrev pub IsRefusedLang : Scheme → List Item → List ℕ → Type 0
IsRefusedLang scheme items lang = (place : ℕ) × DecidesLang scheme items lang place 0

-- the range is "*" alone
abbrev pub IsAny : Item → Type 0
IsAny i = i.range ≡ 42 ∷ []

-- whether the range is another than "*" alone
abbrev pub is_named : Item → Bool
is_named i = not (bytes_eq i.range (42 ∷ []))

-- the list without "*"
abbrev pub named_items : List Item → List Item
named_items items = filter is_named items

-- another range matches under the basic match
abbrev pub MatchesNamed : List (List ℕ) → Item → Type 0
MatchesNamed tag i = (¬ IsAny i) × Basic (pieces i.range) tag

-- the item other than "*" that decides a tag under the basic match
abbrev pub IsDecidingNamed : List Item → List (List ℕ) → ℕ → Type 0
IsDecidingNamed items tag = IsMostSpecific (MatchesNamed tag) items

-- the items other than "*" refuse a tag: of them, the deciding one has weight 0 (project rule)
abbrev pub NamedRefuse : List Item → List (List ℕ) → Type 0
NamedRefuse items tag = (place : ℕ) × ((d : IsDecidingNamed items tag place) × (d.item.weight ≡ 0))

-- ---- the best of some items

-- of the items that fit at their places, the most specific, the first among equals
pub record IsBestOf (Fits : ℕ → Item → Type 0) (items : List Item) (best : MostSpecific) : Type 0
  where
    pub item : Item
    pub stands : slice_get items best.place ≡ Some item
    pub specificity_is : best.specificity ≡ specificity (pieces item.range)
    pub fits : Fits best.place item
    pub most : (k : ℕ) (other : Item) → slice_get items k ≡ Some other → Fits k other
        → specificity (pieces other.range) ≤ best.specificity
    pub first : (k : ℕ) (other : Item) → k < best.place → slice_get items k ≡ Some other
        → Fits k other → specificity (pieces other.range) < best.specificity

-- no item fits at its place
abbrev pub NoneFits : (ℕ → Item → Type 0) → List Item → Type 0
NoneFits Fits items = (k : ℕ) (other : Item) → slice_get items k ≡ Some other → ¬ Fits k other

-- the best of the items that fit, or none where none does
abbrev pub IsBest : (ℕ → Item → Type 0) → List Item → Option MostSpecific → Type 0
IsBest Fits items best = MatchOption best (NoneFits Fits items) (IsBestOf Fits items)
