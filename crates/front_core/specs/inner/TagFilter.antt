-- Tags that are borrowed, and the names of picks.
use Rattle.std.specs.Prelude.{◌<◌, List, All, length, map}
use Rattle.std.specs.Borrow.{Bor}
use Rattle.nego_core.specs.declared.filtering.Pick.{Pick}
use Rattle.front_core.specs.Preferences.{Text}

-- the texts of what is borrowed
abbrev pub texts_of : List (Bor Text) → List Text
texts_of names = map (λ name. name.now) names

-- each pick has a name
abbrev pub HaveNames : {A : Type 0} → List A → List Pick → Type 0
HaveNames names picks = All (λ pick. pick.place < length names) picks
