-- Widened lookup, one item and one language after another.
use Rattle.std.specs.Prelude.{ℕ, ◌≡◌, ◌≤◌, ◌==◌, ◌&&◌, ◌||◌, nat_lt, Bool, true, List, Option, Some}
use Rattle.std.specs.Prelude.{None}
use Rattle.std.specs.List.{slice_get}
use Rattle.std.specs.Cmp.Lexicographic.{slice_cmp}
use Rattle.std.specs.Ordering.{nat_cmp, is_lt}
use Rattle.list_core.specs.Item.{Item}
use Rattle.nego_core.specs.Choosing.{IsOpen, MatchFirstOf}
use Rattle.nego_core.specs.LangSet.{is_among}
use Rattle.nego_core.specs.Widening.{AreMatched, widened}
use Rattle.list_core.specs.declared.scheme.Scheme.{Scheme}
use Rattle.nego_core.specs.WidenedChoice.{IsTriedAt}
use Rattle.nego_core.specs.declared.widened_choice.Earliest.{Earliest}

-- the first place for which `IsTriedAt` holds
abbrev pub IsTriedFirst : Scheme → List Item → List ℕ → ℕ → Type 0
IsTriedFirst scheme items lang n =
    IsTriedAt scheme items lang n × ((m : ℕ) → IsTriedAt scheme items lang m → n ≤ m)

-- whether the language, matched at a place, comes before the earliest so far
abbrev pub is_earlier : ℕ → List ℕ → Option Earliest → Bool
is_earlier tried lang None = true
is_earlier tried lang (Some e) =
    nat_lt tried e.tried || ((tried == e.tried) && is_lt (slice_cmp nat_cmp lang e.lang.now))

-- whatever the languages are that the item matches, the first of its widened candidates that is
-- open
abbrev pub IsFirstWidened : Scheme → List Item → List (List ℕ) → Item → Option (List (List ℕ))
    → Type 0
IsFirstWidened scheme items langs i found =
    (matched : List (List ℕ)) → AreMatched scheme langs i matched
    → MatchFirstOf (IsOpen items (is_among langs)) (widened i matched) found

-- the same of the item at a place
abbrev pub IsFirstWidenedAt : Scheme → List Item → List (List ℕ) → ℕ → Option (List (List ℕ))
    → Type 0
IsFirstWidenedAt scheme items langs place found = of_item (slice_get items place) where
  of_item : Option Item → Type 0
  of_item None = found ≡ None
  of_item (Some i) = IsFirstWidened scheme items langs i found
