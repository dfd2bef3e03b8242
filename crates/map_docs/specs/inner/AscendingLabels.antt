-- Labels of a message that are given on as they are read.
use Rattle.std.specs.Prelude.{ℕ, List, [], ◌++◌}
use Rattle.cell_core.specs.Keyed.{IsMap}
use Rattle.cell_core.specs.Entry.{key_cmp}
use Rattle.catalogue.specs.CatalogueFlat.{under}
use Rattle.json_docs.specs.FaultChecks.{AllPass}
use Rattle.map_docs.specs.LabelsChecks.{keys_checks}
use Rattle.map_docs.specs.MapsLabels.{languages_of}
use Rattle.map_docs.specs.MembersRows.{Keys}
use Rattle.map_docs.specs.inner.MembersRowsSeen.{AreLesser}
use Rattle.map_docs.specs.Maps.{Labelled}

-- after labels that ascend, of lesser messages, the taker took the labels of these languages too,
-- and all ascend
abbrev pub Takes : {T : Type 0} → (T → T → List Labelled → Type 0) → T → T → List ℕ → Keys → Type 0
Takes {T} Holds old new id keys =
    (first : T) (before : List Labelled) → Holds first old before → AreLesser before id
    → IsMap key_cmp before
    → IsMap key_cmp (before ++ under id (languages_of keys))
    × Holds first new (before ++ under id (languages_of keys))

-- the keys of a message pass all tests, whatever its row, and the taker took their labels
abbrev pub IsUnder : {T : Type 0} → (T → T → List Labelled → Type 0) → T → T → List ℕ → Keys
    → Type 0
IsUnder Holds old new id keys =
    ((k : ℕ) → AllPass (keys_checks k [] keys)) × Takes Holds old new id keys
