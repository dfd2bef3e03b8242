-- Rows that were written are read as the entries that they were written for.
use Rattle.std.proofs.Common.{◌≡◌, ◌<◌, ◌^◌, ◌++◌, ℕ, List, [], ◌∷◌, T, map, length, refl, ap, ap₂}
use Rattle.std.proofs.Common.{lt-ltb}
use Rattle.std.specs.List.{All}
use Rattle.std.specs.Prelude.{Option, None, Some}
use Rattle.std.specs.Ordering.{is_lt}
use Rattle.std.specs.FinMap.Entries.{below_all, is_sorted}
use Rattle.cell_core.specs.declared.stamp.Stamp.{Stamp}
use Rattle.cell_core.specs.Entry.{EntryKey, key_cmp}
use Rattle.catalogue.specs.Entries.{Entries, Entry}
use Rattle.catalogue.proofs.CatalogueFlatLemmas.{all_first, all_rest}
use Rattle.serde_json.specs.Data.{Data, string}
use Rattle.serde_json.specs.View.{items_of}
use Rattle.json_docs.specs.FaultChecks.{AllPass, rows_checks}
use Rattle.json_docs.specs.Parts.{list_of, narrowed, texts_in}
use Rattle.row_docs.specs.Entries.{cells_values, entry_value, stamps_values, stamped_value}
use Rattle.row_docs.specs.Entries.{row_of}
use Rattle.row_docs.specs.Fields.{IsAfter, key_of, order_check}
use Rattle.row_docs.specs.Ascending.{AreEntries, cell_checks, cell_row, entry_in, last_key}
use Rattle.row_docs.specs.Ascending.{own_cell_checks, own_stamp_checks, stamp_checks, stamp_row}
use Rattle.row_docs.specs.Ascending.{stamped_in}
use Rattle.row_docs.specs.ShapesRows.{cell_in, label_in, stamp_in}
use Rattle.row_docs.specs.EntriesValid.{AreKeptCells, AreKeptStamps, IsKeptCell, IsKeptStamp}
use Rattle.row_docs.specs.EntriesValues.{label_value}
use Rattle.row_docs.specs.declared.version.Version.TheVariants.{Two}
use Rattle.json_docs.proofs.FaultChecksLemmas.{AllPass-both}
use Rattle.cell_core.proofs.Basics.{first_part, less_than, second_part}
use Rattle.row_docs.proofs.EntriesLowerLemmas.{lower-IsLang, spells-IsLang}
use Rattle.row_docs.proofs.AscendingLemmas.{last_key-push}

-- the list of the items of a list is the list
pub list_of-items_of : (ds : List Data) → list_of (items_of ds) ≡ ds
list_of-items_of [] = refl
list_of-items_of (d ∷ ds) = ap (λ t. d ∷ t) (list_of-items_of ds)

texts_again : (texts : List (List ℕ)) → texts_in (map string texts) ≡ Some texts
texts_again [] = refl
texts_again (t ∷ ts) = rw (texts_again ts) refl

-- the value of a label is read as the label
pub label_again : (label : Option (List (List ℕ))) → label_in (label_value label) ≡ Some label
label_again None = refl
label_again (Some texts) = rw (list_of-items_of (map string texts), texts_again texts) refl

-- a number below 2 ^ 32 is read as one of 32 bits
pub narrow : (n : ℕ) → n < 2 ^ 32 → narrowed n ≡ Some n
narrow n h = rw (lt-ltb n (2 ^ 32) h) refl

cell_again : (e : Entry) → e.1.stamp.count < 2 ^ 32 → cell_in Two (entry_value e)
    ≡ Some (row_of e, e.1.label)
cell_again e h = rw (narrow e.1.stamp.count h, label_again e.1.label) refl

stamp_again : (t : EntryKey × Stamp) → t.1.count < 2 ^ 32
    → stamp_in Two (stamped_value t) ≡ Some
    (record { id = t.0.0; language = t.0.1; time = t.1.time; site = t.1.site; count = t.1.count })
stamp_again t h = rw (narrow t.1.count h) refl

entry_again : (e : Entry) → IsKeptCell e → entry_in Two (entry_value e) ≡ Some e
entry_again e kept = rw (cell_again e kept.0.count, lower-IsLang e.0.1 kept.0.lang) refl

stamped_again : (t : EntryKey × Stamp) → IsKeptStamp t → stamped_in Two (stamped_value t) ≡ Some t
stamped_again t kept = rw (stamp_again t kept.count, lower-IsLang t.0.1 kept.lang) refl

-- the rows of cells make the cells
pub entries_again : (es : Entries) → All IsKeptCell es
    → AreEntries (entry_in Two) (cells_values es) es
entries_again [] kept = refl
entries_again (e ∷ es) kept = ap₂ (λ x xs. x ∷ xs) (entry_again e (all_first IsKeptCell e es kept))
    (entries_again es (all_rest IsKeptCell e es kept))

-- the rows of stamps make the stamps
pub stamps_again : (ts : List (EntryKey × Stamp)) → All IsKeptStamp ts
    → AreEntries (stamped_in Two) (stamps_values ts) ts
stamps_again [] kept = refl
stamps_again (t ∷ ts) kept =
    ap₂ (λ x xs. x ∷ xs) (stamped_again t (all_first IsKeptStamp t ts kept))
    (stamps_again ts (all_rest IsKeptStamp t ts kept))

-- ---- the tests

own_cell_passes : (k : ℕ) (e : Entry) → IsKeptCell e
    → AllPass (own_cell_checks Two k (entry_value e))
own_cell_passes k e kept =
    rw (cell_again e kept.0.count)
    (refl, (kept.0.id, ((e.0.1, spells-IsLang e.0.1 kept.0.lang), (kept.0.site, (kept.1, tt)))))

own_stamp_passes : (k : ℕ) (t : EntryKey × Stamp) → IsKeptStamp t
    → AllPass (own_stamp_checks Two k (stamped_value t))
own_stamp_passes k t kept =
    rw (stamp_again t kept.count) (
      refl,
      (kept.id, ((t.0.1, spells-IsLang t.0.1 kept.lang), (kept.site, tt))),
    )

cell_passes : (done : List Data) (last : Option EntryKey) (e : Entry) → last_key (entry_in Two) done
    ≡ last → IsAfter last e.0 → IsKeptCell e → AllPass (cell_checks Two done (entry_value e))
cell_passes done last e is behind kept =
    AllPass-both (own_cell_checks Two (length done) (entry_value e))
    (order_check (length done) (last_key (entry_in Two) done)
    (key_of (cell_row Two (entry_value e)).0) ∷ []) (own_cell_passes (length done) e kept)
    (rw (is, cell_again e kept.0.count, lower-IsLang e.0.1 kept.0.lang) (behind, tt))

stamp_passes : (done : List Data) (last : Option EntryKey) (t : EntryKey × Stamp)
    → last_key (stamped_in Two) done ≡ last → IsAfter last t.0 → IsKeptStamp t
    → AllPass (stamp_checks Two done (stamped_value t))
stamp_passes done last t is behind kept =
    AllPass-both (own_stamp_checks Two (length done) (stamped_value t))
    (order_check (length done) (last_key (stamped_in Two) done)
    (key_of (stamp_row Two (stamped_value t))) ∷ []) (own_stamp_passes (length done) t kept)
    (rw (is, stamp_again t kept.count, lower-IsLang t.0.1 kept.lang) (behind, tt))

-- the first key, if any, is after the last one
abbrev Follows : {J : Type 0} → Option EntryKey → List (EntryKey × J) → Type 0
Follows last [] = Unit {0}
Follows last (e ∷ es) = IsAfter last e.0

follows : {J : Type 0} (e : EntryKey × J) (es : List (EntryKey × J)) → T (below_all key_cmp e.0 es)
    → Follows (Some e.0) es
follows e [] h = tt
follows e (f ∷ es) h = less_than (key_cmp e.0 f.0)
    (first_part (is_lt (key_cmp e.0 f.0)) (below_all key_cmp e.0 es) h)

cells_from : (done : List Data) (last : Option EntryKey) (es : Entries)
    → last_key (entry_in Two) done ≡ last → Follows last es → T (is_sorted key_cmp es)
    → All IsKeptCell es
    → AllPass (rows_checks (cell_checks Two) done (cells_values es))
cells_from done last [] is first sorted kept = tt
cells_from done last (e ∷ es) is first sorted kept =
    let here = all_first IsKeptCell e es kept in
    AllPass-both (cell_checks Two done (entry_value e)) _ (cell_passes done last e is first here)
    (cells_from (done ++ entry_value e ∷ []) (Some e.0) es
    (last_key-push (entry_in Two) done (entry_value e) e (entry_again e here))
    (follows e es (first_part (below_all key_cmp e.0 es) (is_sorted key_cmp es) sorted))
    (second_part (below_all key_cmp e.0 es) (is_sorted key_cmp es) sorted)
    (all_rest IsKeptCell e es kept))

stamps_from : (done : List Data) (last : Option EntryKey) (ts : List (EntryKey × Stamp))
    → last_key (stamped_in Two) done ≡ last → Follows last ts → T (is_sorted key_cmp ts)
    → All IsKeptStamp ts
    → AllPass (rows_checks (stamp_checks Two) done (stamps_values ts))
stamps_from done last [] is first sorted kept = tt
stamps_from done last (t ∷ ts) is first sorted kept =
    let here = all_first IsKeptStamp t ts kept in
    AllPass-both (stamp_checks Two done (stamped_value t)) _
    (stamp_passes done last t is first here)
    (stamps_from (done ++ stamped_value t ∷ []) (Some t.0) ts
    (last_key-push (stamped_in Two) done (stamped_value t) t (stamped_again t here))
    (follows t ts (first_part (below_all key_cmp t.0 ts) (is_sorted key_cmp ts) sorted))
    (second_part (below_all key_cmp t.0 ts) (is_sorted key_cmp ts) sorted)
    (all_rest IsKeptStamp t ts kept))

begin : {J : Type 0} (es : List (EntryKey × J)) → Follows None es
begin [] = tt
begin (e ∷ es) = tt

-- the rows of cells that a catalogue keeps pass all tests
pub cells_pass : (es : Entries) → AreKeptCells es
    → AllPass (rows_checks (cell_checks Two) [] (cells_values es))
cells_pass es kept = cells_from [] None es refl (begin es) kept.map kept.each

-- the rows of stamps that a summary keeps pass all tests
pub stamps_pass : (ts : List (EntryKey × Stamp)) → AreKeptStamps ts
    → AllPass (rows_checks (stamp_checks Two) [] (stamps_values ts))
stamps_pass ts kept = stamps_from [] None ts refl (begin ts) kept.map kept.each
