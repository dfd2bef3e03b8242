-- Rows and their texts, one part after another.
use Rattle.std.specs.Prelude.{◌++◌, ◌∷◌, ℕ, List, Option, decimal}
use Rattle.json.specs.Print.{quoted}
use Rattle.cell_core.specs.declared.stamp.Stamp.{Stamp}
use Rattle.cell_core.specs.Entry.{EntryKey}
use Rattle.catalogue.specs.Entries.{IsAboveAll}
use Rattle.row_docs.specs.Fields.{IsAfter, stamp_of}
use Rattle.row_docs.specs.EntriesValues.{Row}
use Rattle.site_docs.specs.PlainRows.{row_in, key_in}
use Rattle.site_docs.specs.declared.plain.rows.Front.{Front}

-- a key that is greater than the last one is greater than all these
abbrev pub IsLastOf : {J : Type 0} → Option EntryKey → List (EntryKey × J) → Type 0
IsLastOf last cells = (key : EntryKey) → IsAfter last key → IsAboveAll key cells

-- a row as far as its count, the byte at its end, and what comes after
abbrev pub row_until : ℕ → Row → List ℕ → List ℕ
row_until end row rest =
    91 ∷ (quoted row.id ++ 44 ∷
    (quoted row.language ++ 44 ∷
    (decimal row.time ++ 44 ∷ (quoted row.site ++ 44 ∷ (decimal row.count ++ end ∷ rest)))))

-- a row as far as its label, and what comes after
abbrev pub row_before : Row → List ℕ → List ℕ
row_before = row_until 44

-- the key and the stamp of a row
abbrev pub stamped_in : Front → EntryKey × Stamp
stamped_in front = (key_in front, stamp_of (row_in front))
