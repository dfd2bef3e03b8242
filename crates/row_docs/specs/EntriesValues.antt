-- The JSON values of rows, version 2. Project rule.
use Rattle.std.specs.Prelude.{ℕ, List, map, Option, None, Some}
use Rattle.serde_json.specs.Data.{Data, null, array, number, unsigned, string, no_items, item}
use Rattle.serde_json.specs.View.{items_of}

-- the key and the stamp of a row; the site is the bytes of its name
pub record Row : Type 0 where
  pub id : List ℕ
  pub language : List ℕ
  pub time : ℕ
  pub site : List ℕ
  pub count : ℕ

-- a label is an array of its texts
abbrev pub texts_value : List (List ℕ) → Data
texts_value texts = array (items_of (map string texts))

-- a deletion has null
abbrev pub label_value : Option (List (List ℕ)) → Data
label_value None = null
label_value (Some texts) = texts_value texts

-- `[id, language, time, site, count]`
abbrev pub stamp_value : Row → Data
stamp_value row = array
    (item (string row.id)
    (item (string row.language)
    (item (number (unsigned row.time))
    (item (string row.site) (item (number (unsigned row.count)) no_items)))))

-- `[id, language, time, site, count, label]`
abbrev pub cell_value : Row → Option (List (List ℕ)) → Data
cell_value row label = array
    (item (string row.id)
    (item (string row.language)
    (item (number (unsigned row.time))
    (item (string row.site)
    (item (number (unsigned row.count)) (item (label_value label) no_items))))))
