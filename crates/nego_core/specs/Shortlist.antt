-- Priority lists cut to some languages.
use Rattle.std.specs.Prelude.{ℕ, ◌≡◌, ◌≤◌, List, Option, Some, None, All, Contains, IsSomeAnd}
use Rattle.std.specs.Prelude.{IsTrue, length, option_map}
use Rattle.lang_core.specs.Text.{pieces}
use Rattle.list_core.specs.Item.{Item}
use Rattle.nego_core.specs.LangSet.{is_among}
use Rattle.nego_core.specs.Choosing.{IsLookedUp, MatchFirstOf}
use Rattle.nego_core.specs.Choosing.{IsChosen}
use Rattle.nego_core.specs.WidenedChoice.{IsChosenWidened}
use Rattle.nego_core.specs.Widening.{IsLookedUpWidened}
use Rattle.nego_core.specs.declared.choosing.Choice.{Choice}
use Rattle.nego_core.specs.declared.choosing.Choice.TheVariants.{Matched, Default, Nothing}
use Rattle.nego_core.specs.declared.widening.Widening.{Widening}
use Rattle.nego_core.specs.declared.widening.Widening.TheVariants.{Off, By}

-- a list, whether its ranges are widened, the languages that it is cut to, and those of them that a
-- lookup asks for, one by one
pub record Shortlist : Type 0 where
  pub items : List Item
  pub widening : Widening
  pub langs : List (List ℕ)
  pub ranked : List (List ℕ)

-- the list cut to these languages, of which no more are asked for than there are
pub record IsShortlist (items : List Item) (widening : Widening) (langs : List (List ℕ))
    (shortlist : Shortlist) : Type 0 where
  pub items_are : shortlist.items ≡ items
  pub widening_is : shortlist.widening ≡ widening
  pub langs_are : shortlist.langs ≡ langs
  pub few : length shortlist.ranked ≤ length langs

-- lookup among the languages, widened or not, with the default where nothing is found
abbrev pub IsChosenBy : Widening → List Item → List (List ℕ) → Option (List ℕ) → Choice → Type 0
IsChosenBy Off items langs = IsChosen items (is_among langs)
IsChosenBy (By scheme) items langs = IsChosenWidened scheme items langs

-- the language that is chosen other than as the default, or none
abbrev pub matched_text : Choice → Option (List ℕ)
matched_text (Matched text) = Some text.now
matched_text Default = None
matched_text Nothing = None

-- what is chosen is among the languages
abbrev pub IsThere : List (List ℕ) → Option (List ℕ) → Choice → Type 0
IsThere langs default (Matched text) = IsTrue (is_among langs text.now)
IsThere langs default Default = IsSomeAnd default (λ lang. IsTrue (is_among langs lang))
IsThere langs default Nothing = Unit {0}

-- what lookup (RFC 4647 section 3.4), or widened lookup (project rule), finds without a default
abbrev pub IsLookedUpBy : Widening → List Item → List (List ℕ) → Option (List (List ℕ)) → Type 0
IsLookedUpBy Off items langs = IsLookedUp items (is_among langs)
IsLookedUpBy (By scheme) items langs = IsLookedUpWidened scheme items langs

-- all of some languages are among the others
abbrev pub AreAmong : List (List ℕ) → List (List ℕ) → Type 0
AreAmong some langs = All (Contains langs) some

-- a language is one of some
abbrev pub IsOneOf : List (List ℕ) → List ℕ → Type 0
IsOneOf some lang = IsTrue (is_among some lang)

-- Among any of the languages lookup finds the first that is in this list, which is no longer
-- than there are languages.
pub record IsRanking (widening : Widening) (items : List Item) (langs ranked : List (List ℕ))
    : Type 0 where
  pub few : length ranked ≤ length langs
  pub finds : (some : List (List ℕ)) (found : Option (List ℕ)) → AreAmong some langs
      → MatchFirstOf (IsOneOf some) ranked found
      → IsLookedUpBy widening items some (option_map pieces found)
