-- Labels as the text of their language maps.
use Rattle.std.specs.Prelude.{◌≡◌, ℕ, Bool, true, false, List, [], ◌∷◌}
use Rattle.row_docs.specs.WritingTexts.{text}
use Rattle.map_docs.specs.MapsLabels.{AreLangMaps}
use Rattle.map_docs.specs.Maps.{Labelled}
use Rattle.map_docs.specs.MapsValue.{langmaps_value}

-- it is the text of the language maps of these labels, and reads as them
pub record IsTextOf (labels : List Labelled) (doc : List ℕ) : Type 0 where
  pub text_is : doc ≡ text (langmaps_value labels)
  pub reads : AreLangMaps doc labels

-- whether there is a label
abbrev pub has_label : List Labelled → Bool
has_label [] = false
has_label (e ∷ es) = true

-- the text of these labels, and whether there is one
abbrev pub AreWritten : List Labelled → List ℕ → Bool → Type 0
AreWritten labels doc found = IsTextOf labels doc × (found ≡ has_label labels)
