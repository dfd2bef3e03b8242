-- The keys of rows that pass their tests ascend.
use Rattle.std.proofs.Common.{◌≡◌, ◌++◌, ℕ, List, [], ◌∷◌, T, length, subst, sym}
use Rattle.std.specs.Prelude.{Option, Some}
use Rattle.std.specs.FinMap.Entries.{below_all, is_sorted}
use Rattle.std.specs.Ordering.{is_lt}
use Rattle.std.specs.declared.cmp.Ordering.{Ordering}
use Rattle.std.specs.declared.cmp.Ordering.TheVariants.{Less}
use Rattle.serde_json.specs.Data.{Data}
use Rattle.cell_core.specs.Keyed.{IsMap}
use Rattle.cell_core.specs.declared.stamp.Stamp.{Stamp}
use Rattle.cell_core.specs.Entry.{EntryKey, key_cmp}
use Rattle.cell_core.specs.inner.Entry.{key_cmp_total}
use Rattle.catalogue.specs.Entries.{Entry}
use Rattle.json_docs.specs.FaultChecks.{AllPass, Check, rows_checks}
use Rattle.json_docs.proofs.FaultChecksLemmas.{AllPass-rest, AllPass-front}
use Rattle.row_docs.specs.Fields.{IsAfter, order_check}
use Rattle.row_docs.specs.Ascending.{AreEntries, cell_checks, entry_in, last_key, own_cell_checks}
use Rattle.row_docs.specs.Ascending.{own_stamp_checks, stamp_checks, stamped_in}
use Rattle.row_docs.specs.ShapesRows.{cell_in, stamp_in}
use Rattle.row_docs.specs.declared.version.Version.{Version}
use Rattle.cell_core.proofs.Basics.{both_parts}
use Rattle.row_docs.proofs.AscendingLemmas.{key_of_cell, key_of_stamp, last_key-push}

-- each key is after the one before it, and the first after the last that was there
abbrev AreAfter : {J : Type 0} → Option EntryKey → List (EntryKey × J) → Type 0
AreAfter last [] = Unit {0}
AreAfter last (e ∷ es) = IsAfter last e.0 × AreAfter (Some e.0) es

-- A comparison that is `Less` passes its test for less.
pub so_less : (o : Ordering) → o ≡ Less → T (is_lt o)
so_less o is = subst (λ (r : Ordering). T (is_lt r)) (sym is) tt

-- what is after a key is after a smaller one
after_less : {J : Type 0} (k l : EntryKey) (es : List (EntryKey × J)) → key_cmp k l ≡ Less
    → AreAfter (Some l) es → AreAfter (Some k) es
after_less k l [] less all = tt
after_less k l (e ∷ es) less all = (key_cmp_total.trans k l e.0 less all.0, all.1)

below_after : {J : Type 0} (k : EntryKey) (es : List (EntryKey × J)) → AreAfter (Some k) es
    → T (below_all key_cmp k es)
below_after k [] all = tt
below_after k (e ∷ es) all =
    both_parts (is_lt (key_cmp k e.0)) (below_all key_cmp k es) (so_less (key_cmp k e.0) all.0)
    (below_after k es (after_less k e.0 es all.0 all.1))

after_ascend : {J : Type 0} (last : Option EntryKey) (es : List (EntryKey × J))
    → AreAfter last es → IsMap key_cmp es
after_ascend last [] all = tt
after_ascend last (e ∷ es) all =
    both_parts (below_all key_cmp e.0 es) (is_sorted key_cmp es) (below_after e.0 es all.1)
    (after_ascend (Some e.0) es all.1)

module _ {J : Type 0} (entry : Data → Option (EntryKey × J))
    (checks : List Data → Data → List Check)
    (tells : (before : List Data) (d : Data) (e : EntryKey × J) → AllPass (checks before d)
    → entry d ≡ Some e → IsAfter (last_key entry before) e.0) where
  rows_after : (before rows : List Data) (es : List (EntryKey × J)) → AreEntries entry rows es
      → AllPass (rows_checks checks before rows) → AreAfter (last_key entry before) es
  rows_after before [] [] are pass = tt
  rows_after before [] (e ∷ es) are pass = absurd (cc)
  rows_after before (d ∷ rows) [] are pass = absurd (cc)
  rows_after before (d ∷ rows) (e ∷ es) are pass =
      let first : entry d ≡ Some e = cc in
      let later : AreEntries entry rows es = cc in
      let own = AllPass-front (checks before d) _ pass in
      let rest = AllPass-rest (checks before d) _ pass in
      let others = rows_after (before ++ d ∷ []) rows es later rest in (
        tells before d e own first,
        subst (λ (last : Option EntryKey). AreAfter last es) (last_key-push entry before d e first)
            others,
      )

last_test : (own : List Check) (k : ℕ) (last : Option EntryKey) (key : EntryKey)
    → AllPass (own ++ order_check k last key ∷ []) → IsAfter last key
last_test own k last key pass = let behind = AllPass-rest own _ pass in behind.0

-- those of the rows of a site or a delta
pub cells_ascend : (version : Version) (rows : List Data) (es : List Entry)
    → AllPass (rows_checks (cell_checks version) [] rows) → AreEntries (entry_in version) rows es
    → IsMap key_cmp es
cells_ascend version rows es pass are =
    after_ascend (last_key (entry_in version) []) es
    (rows_after (entry_in version) (cell_checks version)
    (λ before d e own is. subst (IsAfter (last_key (entry_in version) before))
    (key_of_cell (cell_in version d) e is)
    (last_test (own_cell_checks version (length before) d) (length before) _ _ own))
    [] rows es are pass)

-- those of the rows of a summary
pub stamps_ascend : (version : Version) (rows : List Data) (es : List (EntryKey × Stamp))
    → AllPass (rows_checks (stamp_checks version) [] rows) → AreEntries (stamped_in version) rows es
    → IsMap key_cmp es
stamps_ascend version rows es pass are =
    after_ascend (last_key (stamped_in version) []) es
    (rows_after (stamped_in version) (stamp_checks version)
    (λ before d e own is. subst (IsAfter (last_key (stamped_in version) before))
    (key_of_stamp (stamp_in version d) e is)
    (last_test (own_stamp_checks version (length before) d) (length before) _ _ own))
    [] rows es are pass)
