-- Laws of language-map documents.
use Rattle.std.specs.Prelude.{◌≡◌, ℕ, List, IsUtf8}
use Rattle.std.specs.List.{AllByRecursion}
use Rattle.cell_core.specs.Label.{IsLabel}
use Rattle.cell_core.specs.Keyed.{IsMap}
use Rattle.cell_core.specs.MessageId.{IsMessageId}
use Rattle.cell_core.specs.Entry.{key_cmp}
use Rattle.lang_core.specs.Lang.{IsLang}
use Rattle.row_docs.specs.WritingTexts.{text}
use Rattle.map_docs.specs.MapsLabels.{AreLangMaps}
use Rattle.map_docs.specs.Maps.{Labelled}
use Rattle.map_docs.specs.MapsValue.{langmaps_value}

-- the bytes of a document have one list of labels
abbrev pub OneReading : Type 0
OneReading = (bytes : List ℕ) (x y : List Labelled) → AreLangMaps bytes x → AreLangMaps bytes y
    → x ≡ y

-- a label of a message in a language
pub record IsWritable (e : Labelled) : Type 0 where
  pub id : IsMessageId e.0.0
  pub language : IsLang e.0.1
  pub label : IsLabel e.1

-- each is a label of a message in a language
abbrev pub AreWritable : List Labelled → Type 0
AreWritable labels = AllByRecursion IsWritable labels

-- labels that ascend read from their own document
abbrev pub ReadsBack : Type 0
ReadsBack = (labels : List Labelled) → IsMap key_cmp labels → AreWritable labels
    → IsUtf8 (text (langmaps_value labels)) → AreLangMaps (text (langmaps_value labels)) labels
