-- Rows that are written without blanks, whatever escapes their strings have. Project rule.
use Rattle.std.specs.Prelude.{◌∷◌, ◌++◌, [], ℕ, Bool, List, None, Option, Some, codes, decimal, map}
use Rattle.std.specs.Prelude.{true, false}
use Rattle.serde_json.specs.Written.{comma_if}
use Rattle.catalogue.specs.Entries.{Entries, Entry}
use Rattle.text_docs.specs.RowStrings.{IsString}

-- an entry, and what its row has between the quotes of its strings
pub record CompactRow : Type 0 where
  pub entry : Entry
  pub id : List ℕ
  pub language : List ℕ
  pub site : List ℕ
  pub label : Option (List (List ℕ))

-- these are written between the quotes of strings that mean these texts
abbrev pub AreStrings : List (List ℕ) → List (List ℕ) → Type 0
AreStrings [] [] = Unit {0}
AreStrings [] (t ∷ ts) = ⊥
AreStrings (w ∷ ws) [] = ⊥
AreStrings (w ∷ ws) (t ∷ ts) = IsString w t × AreStrings ws ts

-- the same of a label; a deletion has none
abbrev pub AreLabelStrings : Option (List (List ℕ)) → Option (List (List ℕ)) → Type 0
AreLabelStrings None None = Unit {0}
AreLabelStrings None (Some texts) = ⊥
AreLabelStrings (Some strings) None = ⊥
AreLabelStrings (Some strings) (Some texts) = AreStrings strings texts

-- the strings are those of the entry
pub record IsCompactRow (row : CompactRow) : Type 0 where
  pub id : IsString row.id row.entry.0.0
  pub language : IsString row.language row.entry.0.1
  pub site : IsString row.site row.entry.1.stamp.site
  pub label : AreLabelStrings row.label row.entry.1.label

-- the entries of some rows
abbrev pub entries : List CompactRow → Entries
entries rows = map (λ (row : CompactRow). row.entry) rows

-- ---- texts

-- a string with its quotes
abbrev pub in_quotes : List ℕ → List ℕ
in_quotes written = 34 ∷ (written ++ 34 ∷ [])

-- strings with commas between them; `later` says that others come before them
abbrev pub strings_text : Bool → List (List ℕ) → List ℕ
strings_text later [] = []
strings_text later (w ∷ ws) = comma_if later ++ (in_quotes w ++ strings_text true ws)

-- `null`, or an array of strings
abbrev pub label_text : Option (List (List ℕ)) → List ℕ
label_text None = codes "null"
label_text (Some strings) = 91 ∷ (strings_text false strings ++ 93 ∷ [])

-- `["ID","LANGUAGE",TIME,"SITE",COUNT,LABEL]`
abbrev pub row_text : CompactRow → List ℕ
row_text row =
    91 ∷ (in_quotes row.id ++ 44 ∷
    (in_quotes row.language ++ 44 ∷
    (decimal row.entry.1.stamp.time ++ 44 ∷
    (in_quotes row.site ++ 44 ∷
    (decimal row.entry.1.stamp.count ++ 44 ∷ (label_text row.label ++ 93 ∷ []))))))

-- rows with commas between them; `later` says that others come before them
abbrev pub rows_text : Bool → List CompactRow → List ℕ
rows_text later [] = []
rows_text later (row ∷ rows) = comma_if later ++ (row_text row ++ rows_text true rows)
