-- Rows of version 1, with sites by their numbers. Project rule.
use Rattle.std.specs.Prelude.{ℕ, List, [], ◌∷◌, Option, None, option_map}
use Rattle.std.specs.Prelude.{option_and_then}
use Rattle.std.specs.Str.{str_to_ascii_lowercase}
use Rattle.cell_core.specs.CellMigration.{OldStamp}
use Rattle.cell_core.specs.Entry.{EntryKey}
use Rattle.cata_core.specs.SiteMigration.{OldEntry}
use Rattle.serde_json.specs.Data.{Data}
use Rattle.serde_json.specs.Find.{as_str}
use Rattle.json_docs.specs.Parts.{items_in, u32_in, u64_in}
use Rattle.row_docs.specs.ShapesRows.{label_in}

-- what follows a part that is there
infixl 10 ◌>>=◌
abbrev pub ◌>>=◌ : {A B : Type 0} → Option A → (A → Option B) → Option B
o >>= f = option_and_then f o

-- a key with its stamp, whose language is in lower case
abbrev pub old_stamped : List ℕ → List ℕ → ℕ → ℕ → ℕ → EntryKey × OldStamp
old_stamped id language time site count =
    ((id, str_to_ascii_lowercase language), record { time = time; site = site; count = count })

-- the key and the stamp of a row
abbrev pub old_parts_in : Data → Data → Data → Data → Data → Option (EntryKey × OldStamp)
old_parts_in i l t s c = do
  id ← as_str i
  language ← as_str l
  time ← u64_in t
  site ← u32_in s
  option_map (λ count. old_stamped id language time site count) (u32_in c)

-- the entry of a row's parts, `[id, language, time, site, count, label]`, with the site's number
abbrev pub old_entry_of : List Data → Option OldEntry
old_entry_of (i ∷ l ∷ t ∷ s ∷ c ∷ b ∷ []) = do
  parts ← old_parts_in i l t s c
  option_map (λ label. (parts.0, record { stamp = parts.1; label = label })) (label_in b)
old_entry_of _ = None

-- a row of a site or a delta
abbrev pub old_entry_in : Data → Option OldEntry
old_entry_in d = option_and_then old_entry_of (items_in d)

-- the key and the stamp of a row's parts, `[id, language, time, site, count]`
abbrev pub old_stamped_of : List Data → Option (EntryKey × OldStamp)
old_stamped_of (i ∷ l ∷ t ∷ s ∷ c ∷ []) = old_parts_in i l t s c
old_stamped_of _ = None

-- a row of a summary
abbrev pub old_stamped_in : Data → Option (EntryKey × OldStamp)
old_stamped_in d = option_and_then old_stamped_of (items_in d)
