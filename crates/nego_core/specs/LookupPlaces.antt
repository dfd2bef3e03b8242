use Rattle.std.specs.Prelude.{ℕ, ◌≡◌, List, Option, Some, None, position}
use Rattle.std.specs.Str.{bytes_eq}
use Rattle.lang_core.specs.Text.{pieces}
use Rattle.list_core.specs.Item.{Item}
use Rattle.nego_core.specs.Choosing.{IsLookedUp}
use Rattle.nego_core.specs.LangSet.{is_among}
use Rattle.nego_core.specs.Choosing.{IsOpenDefault, HasOpenDefault}
use Rattle.nego_core.specs.declared.lookup_places.Found.{Found}
use Rattle.nego_core.specs.declared.lookup_places.Found.TheVariants.{Matched, Default, Nothing}

-- the least place of a text among languages
abbrev pub least_place : List (List ℕ) → List ℕ → Option ℕ
least_place langs text = position (λ l. bytes_eq l text) langs

-- RFC 4647 section 3.4, over a slice of languages: each place is the least one of the language
-- found
abbrev pub IsFound : List Item → List (List ℕ) → Option (List ℕ) → Found → Type 0
IsFound items langs default (Matched place) =
    (text : List ℕ) × IsLookedUp items (is_among langs) (Some (pieces text))
    × (least_place langs text ≡ Some place)
IsFound items langs default (Default place) =
    IsLookedUp items (is_among langs) None
    × ((lang : List ℕ) × (default ≡ Some lang) × IsOpenDefault items (is_among langs) lang
    × (least_place langs lang ≡ Some place))
IsFound items langs default Nothing =
    IsLookedUp items (is_among langs) None × ¬ HasOpenDefault items (is_among langs) default
