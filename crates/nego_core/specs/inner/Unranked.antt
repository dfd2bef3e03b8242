-- Languages that are not ranked yet.
use Rattle.std.specs.Prelude.{ℕ, ◌≡◌, ◌≤◌, ◌+◌, ◌⊎◌, true, false, List, Option, Some, None, All}
use Rattle.std.specs.Prelude.{Contains, length, map}
use Rattle.std.specs.Borrow.{Bor}
use Rattle.nego_core.specs.LangSet.{is_among}

-- the texts by which the languages are found
abbrev pub texts_left : List (Bor (List ℕ) × Bor (List ℕ)) → List (List ℕ)
texts_left entries = map (λ e. e.0.now) entries

-- each language is found by its own text
abbrev pub AreSpelled : List (Bor (List ℕ) × Bor (List ℕ)) → Type 0
AreSpelled entries = All (λ e. e.1.now ≡ e.0.now) entries

-- the texts are those of the languages, and not more of them
pub record Spells (langs left : List (List ℕ)) : Type 0 where
  pub few : length left ≤ length langs
  pub each : (lang : List ℕ) → Contains langs lang → Contains left lang
  pub only : (lang : List ℕ) → Contains left lang → Contains langs lang

-- The language of a text is taken out, and no other; or there is none, and nothing is taken.
abbrev pub TakesFrom : List (List ℕ) → List ℕ → List (List ℕ) → Option (List ℕ) → Type 0
TakesFrom left text less None = (is_among left text ≡ false) × (less ≡ left)
TakesFrom left text less (Some lang) =
    (lang ≡ text) × (is_among left text ≡ true) × (is_among less text ≡ false)
    × (length less + 1 ≡ length left)
    × ((l : List ℕ) → Contains left l → (text ≡ l) ⊎ Contains less l)
    × ((l : List ℕ) → Contains less l → Contains left l)
