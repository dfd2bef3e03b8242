-- Labels that are put one after another.
use Rattle.std.specs.Prelude.{ℕ, List, Some, map}
use Rattle.catalogue.specs.Entries.{Entries}
use Rattle.map_docs.specs.Maps.{Labelled}
use Rattle.docs_core.specs.UpdatingChanges.{Change, Makes, SpendsClock}

-- each label, put
abbrev pub puts_of : List Labelled → List Change
puts_of labels = map (λ e. (e.0, Some e.1)) labels

-- each label is put at this time with the next stamp of this site after the greatest then held; no
-- other cell changes
abbrev pub Imports : ℕ → List ℕ → List Labelled → Entries → Entries → Type 0
Imports now name labels old new = Makes now name (puts_of labels) old new

-- some labels could be put so, and for the one after them there is no next stamp
abbrev pub SpendsImport : ℕ → List ℕ → List Labelled → Entries → Type 0
SpendsImport now name labels old = SpendsClock now name (puts_of labels) old
