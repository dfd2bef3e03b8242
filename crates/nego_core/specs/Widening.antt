-- Widened lookup (project rule): a range finds the languages that it matches too.
use Rattle.std.specs.Prelude.{ℕ, ◌≡◌, ◌↔◌, List, ◌++◌, Option, Some, None}
use Rattle.std.specs.Prelude.{AllPairs, Contains, map}
use Rattle.std.specs.List.{flat_map}
use Rattle.std.specs.Cmp.Lexicographic.{slice_cmp}
use Rattle.std.specs.Ordering.{nat_cmp}
use Rattle.std.specs.declared.cmp.Ordering.TheVariants.{Less}
use Rattle.lang_core.specs.Text.{pieces}
use Rattle.list_core.specs.Item.{Item}
use Rattle.list_core.specs.Deciding.{MatchesLang}
use Rattle.list_core.specs.LookupOrder.{IsOrder}
use Rattle.nego_core.specs.Choosing.{IsOpen, MatchFirstOf}
use Rattle.list_core.specs.Candidates.{candidates_of}
use Rattle.nego_core.specs.LangSet.{is_among}
use Rattle.nego_core.specs.LookupPlaces.{least_place, IsFound}
use Rattle.nego_core.specs.Choosing.{IsOpenDefault, HasOpenDefault}
use Rattle.list_core.specs.declared.scheme.Scheme.{Scheme}
use Rattle.nego_core.specs.declared.lookup_places.Found.{Found}
use Rattle.nego_core.specs.declared.lookup_places.Found.TheVariants.{Matched, Default, Nothing}
use Rattle.nego_core.specs.declared.widening.Widening.{Widening}
use Rattle.nego_core.specs.declared.widening.Widening.TheVariants.{Off, By}

-- one text is below another by their bytes
abbrev pub Ascends : List ℕ → List ℕ → Type 0
Ascends a b = slice_cmp nat_cmp a b ≡ Less

-- the languages that the range of an item matches, each once, in ascending order of bytes
pub record AreMatched (scheme : Scheme) (langs : List (List ℕ)) (i : Item)
    (matched : List (List ℕ)) : Type 0 where
  pub each : (lang : List ℕ)
      → Contains matched lang ↔ (Contains langs lang × MatchesLang scheme i lang)
  pub ascending : AllPairs Ascends matched

-- the widened candidates of an item: those of lookup, and after them the languages that it matches
abbrev pub widened : Item → List (List ℕ) → List (List (List ℕ))
widened i matched = candidates_of i ++ map pieces matched

-- the first widened candidate of the items, in their order, that is among the languages and not
-- refused
pub record IsLookedUpWidened (scheme : Scheme) (items : List Item) (langs : List (List ℕ))
    (found : Option (List (List ℕ))) : Type 0 where
  pub ordered : List Item
  pub order_ok : IsOrder items ordered
  pub matched : Item → List (List ℕ)
  pub matched_ok : (i : Item) → AreMatched scheme langs i (matched i)
  pub found_is : MatchFirstOf (IsOpen items (is_among langs))
      (flat_map (λ i. widened i (matched i)) ordered) found

-- the same by the least place of the language found, with the default where none is found
abbrev pub IsFoundWidened : Scheme → List Item → List (List ℕ) → Option (List ℕ) → Found → Type 0
IsFoundWidened scheme items langs default (Matched place) =
    (text : List ℕ) × IsLookedUpWidened scheme items langs (Some (pieces text))
    × (least_place langs text ≡ Some place)
IsFoundWidened scheme items langs default (Default place) =
    IsLookedUpWidened scheme items langs None
    × ((lang : List ℕ) × (default ≡ Some lang) × IsOpenDefault items (is_among langs) lang
    × (least_place langs lang ≡ Some place))
IsFoundWidened scheme items langs default Nothing =
    IsLookedUpWidened scheme items langs None × ¬ HasOpenDefault items (is_among langs) default

-- lookup, or widened lookup under the scheme
abbrev pub IsFoundBy : Widening → List Item → List (List ℕ) → Option (List ℕ) → Found → Type 0
IsFoundBy Off = IsFound
IsFoundBy (By scheme) = IsFoundWidened scheme
