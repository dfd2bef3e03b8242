-- What is read of a row of version 1 is what its plain data become.
use Rattle.std.proofs.Common.{◌≡◌, ◌∙◌, ℕ, List, [], ◌∷◌, ap, sym, refl}
use Rattle.std.specs.Prelude.{Option, None, Some, map, option_map, option_and_then}
use Rattle.cell_core.specs.CellMigration.{OldStamp, migrated_stamp}
use Rattle.cell_core.specs.SiteName.{padded_name}
use Rattle.cata_core.specs.Delta.{Stamps}
use Rattle.cell_core.specs.Entry.{EntryKey}
use Rattle.catalogue.specs.Entries.{Entries}
use Rattle.cell_core.specs.declared.stamp.Stamp.{Stamp}
use Rattle.cata_core.specs.SiteMigration.{OldEntries, OldEntry, OldStamps}
use Rattle.cata_core.specs.SiteMigration.{migrated_entries, migrated_entry}
use Rattle.cata_core.specs.SiteMigration.{migrated_stamps}
use Rattle.serde_json.specs.Data.{Data}
use Rattle.serde_json.specs.Find.{as_str}
use Rattle.json_docs.specs.Parts.{items_in, u32_in, u64_in}
use Rattle.row_docs.specs.Fields.{entry_of, key_of, stamp_of, stamped_of}
use Rattle.row_docs.specs.Ascending.{entry_in, stamped_in}
use Rattle.row_docs.specs.ShapesRows.{cell_in, cell_of, label_in, parts_in, stamp_in}
use Rattle.row_docs.specs.ShapesRows.{stamp_of as stamp_row_of}
use Rattle.row_docs.specs.EntriesValues.{Row}
use Rattle.row_docs.specs.ShapesMigration.{◌>>=◌, old_entry_in, old_entry_of, old_stamped_in}
use Rattle.row_docs.specs.ShapesMigration.{old_stamped, old_stamped_of}
use Rattle.row_docs.specs.declared.version.Version.TheVariants.{One}

-- the key and the stamp that five parts give
abbrev pub old_parts_by : Option (List ℕ) → Option (List ℕ) → Option ℕ → Option ℕ → Option ℕ
    → Option (EntryKey × OldStamp)
old_parts_by oi ol ot os oc = do
  id ← oi
  language ← ol
  time ← ot
  site ← os
  option_map (λ count. old_stamped id language time site count) oc

parts_by : (oi ol : Option (List ℕ)) (ot os oc : Option ℕ) (row : Row)
    → option_and_then
    (λ id. option_and_then
    (λ language. option_and_then
    (λ time. option_and_then
    (λ site. option_map (λ (count : ℕ). let r : Row =
    record {
      id = id;
      language = language;
      time = time;
      site = site;
      count = count;
    } in r) oc) (option_map padded_name os)) ot) ol) oi
    ≡ Some row
    → (old : OldStamp)
    × (old_parts_by oi ol ot os oc ≡ Some (key_of row, old))
    × (migrated_stamp old ≡ stamp_of row)
parts_by None ol ot os oc row is = cc
parts_by (Some i) None ot os oc row is = cc
parts_by (Some i) (Some l) None os oc row is = cc
parts_by (Some i) (Some l) (Some t) None oc row is = cc
parts_by (Some i) (Some l) (Some t) (Some s) None row is = cc
parts_by (Some i) (Some l) (Some t) (Some s) (Some c) row is =
    let made : Row = record { id = i; language = l; time = t; site = padded_name s; count = c } in
    let same : made ≡ row = cc in
    let old : OldStamp = record { time = t; site = s; count = c } in
    (old, ap (λ (r : Row). Some (key_of r, old)) same, ap stamp_of same)

both_some : (P : Option Row) (L : Option (Option (List (List ℕ))))
    (p : Row × Option (List (List ℕ)))
    → option_and_then (λ row. option_map (λ label. (row, label)) L) P ≡ Some p
    → (P ≡ Some p.0) × (L ≡ Some p.1)
both_some None L p is = absurd (cc)
both_some (Some row) None p is = absurd (cc)
both_some (Some row) (Some label) p is = let same : (row, label) ≡ p = cc in
    (ap (λ q. Some q.0) same, ap (λ q. Some q.1) same)

row_migrated : (ds : List Data) (p : Row × Option (List (List ℕ))) → cell_of One ds ≡ Some p
    → (old : OldEntry) × (old_entry_of ds ≡ Some old) × (migrated_entry old ≡ entry_of p.0 p.1)
row_migrated (i ∷ l ∷ t ∷ s ∷ c ∷ b ∷ []) p is =
    let both = both_some (parts_in One i l t s c) (label_in b) p is in
    let parts = parts_by (as_str i) (as_str l) (u64_in t) (u32_in s) (u32_in c) p.0 both.0 in
    let old : OldEntry = (key_of p.0, record { stamp = parts.0; label = p.1 }) in (
      old,
      ap
          (option_and_then
          (λ (q : EntryKey × OldStamp). option_map
          (λ label. let e : OldEntry = (q.0, record { stamp = q.1; label = label }) in e)
          (label_in b))) parts.1
          ∙ ap
          (option_map (λ label. let e : OldEntry =
          (key_of p.0, record { stamp = parts.0; label = label }) in e)) both.1,
      ap (λ stamp. let e : EntryKey × Rattle.cell_core.specs.declared.cell.Cell.Cell =
          (key_of p.0, record { stamp = stamp; label = p.1 }) in e) parts.2,
    )
row_migrated ds p is = absurd (cc)

-- a row with a cell is read as the migrated cell that it has
pub cell_migrated : (d : Data) (p : Row × Option (List (List ℕ))) → cell_in One d ≡ Some p
    → (old : OldEntry) × (old_entry_in d ≡ Some old) × (migrated_entry old ≡ entry_of p.0 p.1)
cell_migrated d p is = go (items_in d) is
  where
    go : (o : Option (List Data)) → option_and_then (cell_of One) o ≡ Some p
        → (old : OldEntry) × (option_and_then old_entry_of o ≡ Some old)
        × (migrated_entry old ≡ entry_of p.0 p.1)
    go None h = absurd (cc)
    go (Some ds) h = row_migrated ds p h

-- ---- rows in an array

-- what a function gives of an option is of something in it
pub mapped_by : {A B : Type 0} (f : A → B) (o : Option A) (y : B) → option_map f o ≡ Some y
    → (x : A) × (o ≡ Some x) × (f x ≡ y)
mapped_by f None y is = absurd (cc)
mapped_by f (Some x) y is = (x, refl, cc)

-- the rows of a site or a delta
pub entries_migrated : (ds : List Data) (es : Entries) → map (entry_in One) ds ≡ map Some es
    → (olds : OldEntries) × (map old_entry_in ds ≡ map Some olds) × (es ≡ migrated_entries olds)
entries_migrated [] [] are = ([], refl, refl)
entries_migrated [] (e ∷ es) are = absurd (cc)
entries_migrated (d ∷ ds) [] are = absurd (cc)
entries_migrated (d ∷ ds) (e ∷ es) are =
    let first : entry_in One d ≡ Some e = cc in
    let later : map (entry_in One) ds ≡ map Some es = cc in
    let row =
    mapped_by (λ (p : Row × Option (List (List ℕ))). entry_of p.0 p.1) (cell_in One d) e
    first in
    let old = cell_migrated d row.0 row.1 in
    let rest = entries_migrated ds es later in (
      old.0 ∷ rest.0,
      ap (λ o. o ∷ map old_entry_in ds) old.1 ∙ ap (λ t. Some old.0 ∷ t) rest.1,
      ap (λ x. x ∷ es) (sym row.2 ∙ sym old.2) ∙ ap (λ t. migrated_entry old.0 ∷ t) rest.2,
    )

stamped_row : (ds : List Data) (row : Row) → stamp_row_of One ds ≡ Some row
    → (old : OldStamp) × (old_stamped_of ds ≡ Some (key_of row, old))
    × (migrated_stamp old ≡ stamp_of row)
stamped_row (i ∷ l ∷ t ∷ s ∷ c ∷ []) row is =
    parts_by (as_str i) (as_str l) (u64_in t) (u32_in s) (u32_in c) row is
stamped_row ds row is = absurd (cc)

stamped_listed : (o : Option (List Data)) (row : Row)
    → option_and_then (stamp_row_of One) o ≡ Some row
    → (old : OldStamp) × (option_and_then old_stamped_of o ≡ Some (key_of row, old))
    × (migrated_stamp old ≡ stamp_of row)
stamped_listed None row is = absurd (cc)
stamped_listed (Some ds) row is = stamped_row ds row is

-- the rows of a summary
pub stamps_migrated : (ds : List Data) (es : Stamps) → map (stamped_in One) ds ≡ map Some es
    → (olds : OldStamps) × (map old_stamped_in ds ≡ map Some olds) × (es ≡ migrated_stamps olds)
stamps_migrated [] [] are = ([], refl, refl)
stamps_migrated [] (e ∷ es) are = absurd (cc)
stamps_migrated (d ∷ ds) [] are = absurd (cc)
stamps_migrated (d ∷ ds) (e ∷ es) are =
    let first : stamped_in One d ≡ Some e = cc in
    let later : map (stamped_in One) ds ≡ map Some es = cc in
    let row = mapped_by stamped_of (stamp_in One d) e first in
    let old = stamped_listed (items_in d) row.0 row.1 in
    let rest = stamps_migrated ds es later in
    let held : EntryKey × OldStamp = (key_of row.0, old.0) in (
      held ∷ rest.0,
      ap (λ o. o ∷ map old_stamped_in ds) old.1 ∙ ap (λ t. Some held ∷ t) rest.1,
      ap (λ x. x ∷ es)
          (sym row.2
          ∙ ap (λ stamp. let x : EntryKey × Stamp = (key_of row.0, stamp) in x) (sym old.2))
          ∙ ap (λ t. let x : EntryKey × Stamp = (key_of row.0, migrated_stamp old.0) in x ∷ t)
          rest.2,
    )
