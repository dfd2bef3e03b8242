-- Languages in the order in which a list matches them.
use Rattle.std.specs.Prelude.{ℕ, ◌≡◌, ◌≤◌, List, [], All, Contains, IsSorted}
use Rattle.list_core.specs.Item.{Item}
use Rattle.nego_core.specs.WidenedChoice.{IsTriedAt}
use Rattle.std.specs.declared.cmp.Ordering.{Ordering}
use Rattle.std.specs.Ordering.{nat_cmp, on, then_cmp}
use Rattle.std.specs.Cmp.Lexicographic.{slice_cmp}
use Rattle.list_core.specs.declared.scheme.Scheme.{Scheme}
use Rattle.nego_core.specs.declared.shortlist.MatchedLang.{MatchedLang}
use Rattle.nego_core.specs.declared.widening.Widening.{Widening}
use Rattle.nego_core.specs.declared.widening.Widening.TheVariants.{Off, By}

-- by the place in the order of lookup, then by the languages' bytes
abbrev pub matched_cmp : MatchedLang → MatchedLang → Ordering
matched_cmp = then_cmp (on (λ m. m.tried) nat_cmp) (on (λ m. m.lang) (slice_cmp nat_cmp))

-- each language that the items of the order match, at the first place where one does
pub record AreMatchedLangs (scheme : Scheme) (items : List Item) (langs : List (List ℕ))
    (matched : List MatchedLang) : Type 0 where
  pub each : (lang : List ℕ) (n : ℕ) → Contains langs lang → IsTriedAt scheme items lang n
      → (m : MatchedLang) × Contains matched m × (m.lang ≡ lang) × (m.tried ≤ n)
  pub only : All (λ m. IsTriedAt scheme items m.lang m.tried) matched

-- the same in ascending order, where lookup is widened, and else none
abbrev pub AreMatchedBy : Widening → List Item → List (List ℕ) → List MatchedLang → Type 0
AreMatchedBy Off items langs matched = matched ≡ []
AreMatchedBy (By scheme) items langs matched =
    AreMatchedLangs scheme items langs matched × IsSorted matched_cmp matched
