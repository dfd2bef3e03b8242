-- The labels of a language-map document (JSON-LD 1.1, sections 4.6.2 and 9.8).
use Rattle.std.specs.Prelude.{◌≡◌, ℕ, List, [], ◌∷◌, Option, None, Some}
use Rattle.std.specs.Prelude.{unwrap_or}
use Rattle.std.specs.List.{filter_map, flat_map}
use Rattle.std.specs.List.Sorted.{IsPermutation}
use Rattle.std.specs.Str.{str_to_ascii_lowercase}
use Rattle.cell_core.specs.Keyed.{IsMap}
use Rattle.cell_core.specs.Entry.{key_cmp}
use Rattle.catalogue.specs.CatalogueFlat.{under}
use Rattle.serde_json.specs.Data.{Data}
use Rattle.json_docs.specs.FaultChecks.{AllPass, AreJson, IsRefusal}
use Rattle.json_docs.specs.declared.fault.DocCause.{DocCause}
use Rattle.map_docs.specs.LabelsChecks.{is_marked, langmaps_checks, unless_marked}
use Rattle.map_docs.specs.MembersRows.{Keys, Rows, Strings, message_rows_in}
use Rattle.map_docs.specs.Maps.{Labelled}
use Rattle.map_docs.specs.MapsValue.{Languages}

-- a key with a string left gives a label of its language, in lower case
abbrev pub labelled : List ℕ × Strings → Option (List ℕ × List (List ℕ))
labelled (key, None) = None
labelled (key, Some []) = None
labelled (key, Some (t ∷ ts)) = Some (str_to_ascii_lowercase key, t ∷ ts)

-- the labels of a language map, in the order of its keys
abbrev pub languages_of : Keys → Languages
languages_of keys = filter_map labelled keys

-- the labels of a row; a name that begins with "@" is skipped
abbrev pub row_labels : List ℕ × Option Keys → List Labelled
row_labels r = unless_marked (is_marked r.0) (under r.0 (languages_of (unwrap_or r.1 [])))

-- the labels of all rows, in the order of the rows and their keys
abbrev pub rows_labels : Rows → List Labelled
rows_labels rows = flat_map row_labels rows

-- the document's labels, in ascending order of key
abbrev pub ReadsAsLangMaps : Data → List Labelled → Type 0
ReadsAsLangMaps d labels =
    (rows : Rows) × (message_rows_in d ≡ Some rows) × IsPermutation (rows_labels rows) labels
    × IsMap key_cmp labels

-- the bytes are the text of a language-map document with these labels
abbrev pub AreLangMaps : List ℕ → List Labelled → Type 0
AreLangMaps bytes labels =
    (d : Data) × AreJson bytes d × AllPass (langmaps_checks d) × ReadsAsLangMaps d labels

-- the bytes are refused as language maps, by the first test that fails
abbrev pub RefusesLangMaps : List ℕ → DocCause → Type 0
RefusesLangMaps = IsRefusal langmaps_checks
