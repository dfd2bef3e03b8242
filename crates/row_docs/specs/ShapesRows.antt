-- The shapes of rows as JSON data, in both versions. Project rule.
use Rattle.std.specs.Prelude.{ℕ, List, [], ◌∷◌, Option, None, Some, option_map, option_and_then}
use Rattle.cell_core.specs.SiteName.{padded_name}
use Rattle.serde_json.specs.Data.{Data, null, boolean, number, string, array, object}
use Rattle.serde_json.specs.Find.{as_str}
use Rattle.json_docs.specs.Parts.{list_of, items_in, u64_in, u32_in, texts_in}
use Rattle.row_docs.specs.EntriesValues.{Row}
use Rattle.row_docs.specs.declared.version.Version.{Version}
use Rattle.row_docs.specs.declared.version.Version.TheVariants.{One, Two}

-- ---- parts of rows

-- a site by its number in version 1, where number n means its padded name, and by its name in
-- version 2
abbrev pub site_in : Version → Data → Option (List ℕ)
site_in One d = option_map padded_name (u32_in d)
site_in Two d = as_str d

-- null for a deletion, or the texts
abbrev pub label_in : Data → Option (Option (List (List ℕ)))
label_in null = Some None
label_in (boolean b) = None
label_in (number n) = None
label_in (string s) = None
label_in (array ds) = option_map Some (texts_in (list_of ds))
label_in (object ms) = None

-- the five parts with which each row begins, where each has its shape
abbrev pub parts_in : Version → Data → Data → Data → Data → Data → Option Row
parts_in version i l t s c =
    option_and_then (λ id. option_and_then (λ language. option_and_then (λ time. option_and_then
    (λ site. option_map (λ count.
    record { id = id; language = language; time = time; site = site; count = count })
    (u32_in c)) (site_in version s)) (u64_in t)) (as_str l)) (as_str i)

-- ---- rows: the language is as it is written

-- the row of these parts, `[id, language, time, site, count]`
abbrev pub stamp_of : Version → List Data → Option Row
stamp_of version (i ∷ l ∷ t ∷ s ∷ c ∷ []) = parts_in version i l t s c
stamp_of version _ = None

-- a row of a summary
abbrev pub stamp_in : Version → Data → Option Row
stamp_in version d = option_and_then (stamp_of version) (items_in d)

-- the row of these parts, `[id, language, time, site, count, label]`, with its label
abbrev pub cell_of : Version → List Data → Option (Row × Option (List (List ℕ)))
cell_of version (i ∷ l ∷ t ∷ s ∷ c ∷ b ∷ []) =
    option_and_then (λ row. option_map (λ label. (row, label)) (label_in b))
    (parts_in version i l t s c)
cell_of version _ = None

-- a row of a site or a delta
abbrev pub cell_in : Version → Data → Option (Row × Option (List (List ℕ)))
cell_in version d = option_and_then (cell_of version) (items_in d)
