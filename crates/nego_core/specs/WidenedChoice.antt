-- Widened lookup over any languages that can be searched.
use Rattle.std.specs.Prelude.{ℕ, ◌≡◌, ◌≤◌, List, Option, Some, None, All, Contains}
use Rattle.lang_core.specs.Text.{pieces}
use Rattle.list_core.specs.Item.{Item}
use Rattle.list_core.specs.Deciding.{NamedRefuse}
use Rattle.nego_core.specs.LangSet.{is_among}
use Rattle.nego_core.specs.Choosing.{HasOpenDefault}
use Rattle.nego_core.specs.Widening.{Ascends, IsLookedUpWidened}
use Rattle.list_core.specs.Deciding.{MatchesLang}
use Rattle.list_core.specs.declared.scheme.Scheme.{Scheme}
use Rattle.nego_core.specs.declared.choosing.Choice.{Choice}
use Rattle.nego_core.specs.declared.choosing.Choice.TheVariants.{Matched, Default, Nothing}
use Rattle.list_core.specs.FirstTried.{item_tried}
use Rattle.list_core.specs.LookupOrder.{AreOrderKeys}
use Rattle.list_core.specs.declared.lookup_order.OrderKey.{OrderKey}
use Rattle.nego_core.specs.declared.widened_choice.Earliest.{Earliest}

-- widened lookup, with the default where no widened candidate is found
abbrev pub IsChosenWidened : Scheme → List Item → List (List ℕ) → Option (List ℕ) → Choice
    → Type 0
IsChosenWidened scheme items langs default (Matched text) =
    IsLookedUpWidened scheme items langs (Some (pieces text.now))
IsChosenWidened scheme items langs default Default =
    IsLookedUpWidened scheme items langs None × HasOpenDefault items (is_among langs) default
IsChosenWidened scheme items langs default Nothing =
    IsLookedUpWidened scheme items langs None × ¬ HasOpenDefault items (is_among langs) default

-- the item that lookup tries at a place of its order matches the language, which the items other
-- than "*" do not refuse
abbrev pub IsTriedAt : Scheme → List Item → List ℕ → ℕ → Type 0
IsTriedAt scheme items lang n =
    (keys : List OrderKey) × AreOrderKeys items keys
    × ((i : Item) × (item_tried items keys n ≡ Some i)
    × MatchesLang scheme i lang)
    × ¬ NamedRefuse items (pieces lang)

-- a language that is matched at one place does not come before one that is matched at another
abbrev pub IsNotBefore : ℕ → List ℕ → ℕ → List ℕ → Type 0
IsNotBefore n lang tried x = (tried ≤ n) × (n ≡ tried → ¬ Ascends lang x)

-- the language that is matched first, the least by bytes where one item matches several, or none
-- where none is matched
abbrev pub MatchEarliest : Scheme → List Item → List (List ℕ) → Option Earliest → Type 0
MatchEarliest scheme items langs None = All (λ l. (n : ℕ) → ¬ IsTriedAt scheme items l n) langs
MatchEarliest scheme items langs (Some e) =
    Contains langs e.lang.now × IsTriedAt scheme items e.lang.now e.tried
    × All (λ l. (n : ℕ) → IsTriedAt scheme items l n → IsNotBefore n l e.tried e.lang.now) langs
