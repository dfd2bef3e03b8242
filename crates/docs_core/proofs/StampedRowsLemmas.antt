-- Changes that are written with their stamps: joined with a site they are made.
--
-- The stamps of an edit ascend and are later than all that the site has. So each cell of an edit
-- agrees with the site's cell at its key, and wins the join. Joining the list of stamped changes to
-- a site is therefore putting each change at its key, in order. The second half is the invariant of
-- the writer: the labels or changes that were taken so far have their stamps, and one more has the
-- next one.
use Rattle.std.proofs.Common.{◌≡◌, ◌∙◌, ◌++◌, [], ◌∷◌, ℕ, List, None, Option, Some}
use Rattle.std.proofs.Common.{ap, append-nil, append_assoc, cond, false, inl, inr, refl, subst}
use Rattle.std.proofs.Common.{sym}
use Rattle.std.proofs.Common.{◌+◌, ◌<◌, drop, get_or, length, map, take, true}
use Rattle.std.proofs.lemmas.List.{map-append, take-append-drop, take_more}
use Rattle.std.proofs.lemmas.List.Elements.{All-append, All-cons, All-map, All-nil}
use Rattle.std.specs.declared.cmp.Ordering.TheVariants.{Greater, Less}
use Rattle.std.specs.FinMap.Entries.{below_all, find, find-put, is_sorted, is_sorted-put, put}
use Rattle.std.specs.Ordering.{eq_by_cmp, ordering_reverse}
use Rattle.cell_core.specs.Cell.{AgreeCells, joined_cells}
use Rattle.cell_core.specs.inner.Cell.{stamp_cmp_total}
use Rattle.cell_core.specs.Keyed.{IsMap, joined_if_both}
use Rattle.cell_core.specs.inner.KeyedLaws.{find-joined_maps, joined_maps-IsMap, joined_of_maps}
use Rattle.cell_core.specs.inner.KeyedLaws.{same_maps}
use Rattle.cell_core.specs.Stamp.{IsAbove, IsNext, stamp_cmp}
use Rattle.cell_core.specs.declared.cell.Cell.{Cell}
use Rattle.cell_core.specs.declared.stamp.Stamp.{Stamp}
use Rattle.cell_core.specs.Entry.{EntryKey, key_cmp}
use Rattle.catalogue.specs.Entries.{Agree, Entries, Entry, IsAboveAll, joined}
use Rattle.cell_core.specs.inner.Entry.{key_cmp_exact, key_cmp_total}
use Rattle.catalogue.specs.CatalogueLatest.{latest_of}
use Rattle.catalogue.proofs.CatalogueAboveLemmas.{front_below}
use Rattle.cell_core.proofs.KeyedPlacesLemmas.{find-below}
use Rattle.cata_core.proofs.SyncingTurnsLemmas.{agrees_back, joined_back}
use Rattle.catalogue.proofs.CatalogueLatestLemmas.{held_less, latest_put}
use Rattle.map_docs.specs.Maps.{Labelled}
use Rattle.docs_core.specs.ImportingLabels.{puts_of}
use Rattle.docs_core.specs.UpdatingChanges.{Change, Makes}
use Rattle.docs_core.specs.inner.StampedRows.{AreStamped, HoldsStamped}
use Rattle.docs_core.specs.inner.SyncedRows.{IsSyncedTo, untested}
use Rattle.docs_core.specs.declared.call.stamped_rows.StampedRows.{StampedRows}
use Rattle.cell_core.proofs.Basics.{first_part, second_part, tied_order as tied}
use Rattle.list_core.proofs.Basics.{element_at as first_left}
use Rattle.docs_core.proofs.JoinedRowsLemmas.{apart_agrees, joined_first, joined_later}
use Rattle.summary_docs.proofs.LackedRowsLemmas.{above_before, above_one}

-- ---- a cell that replaces an earlier one

is_greater : (c d : Cell) → stamp_cmp d.stamp c.stamp ≡ Less
    → stamp_cmp c.stamp d.stamp ≡ Greater
is_greater c d less =
    stamp_cmp_total.antisymm c.stamp d.stamp ∙ ap ordering_reverse less

-- a cell agrees with an earlier one
pub later_agrees : (c d : Cell) → stamp_cmp d.stamp c.stamp ≡ Less → AgreeCells c d
later_agrees c d less = apart_agrees c d Greater (is_greater c d less) (λ no. cc)

-- joined with an earlier one it stays
pub later_joined : (c d : Cell) → stamp_cmp d.stamp c.stamp ≡ Less → joined_cells c d ≡ c
later_joined c d less = joined_first c d Greater (is_greater c d less) (λ no. cc)

-- ---- changes that are joined with a site

agree_second : (own other : Entries) → IsMap key_cmp own → Agree own other → IsMap key_cmp other
agree_second own other map agree = elim agree [
  | inl same ↦ subst (IsMap key_cmp) same map
  | inr both ↦ both.second
]

module _ (now : ℕ) (name : List ℕ) where
  -- ---- joined they are put

  -- at each key, with the first put or not
  at_key : (own rest : Entries) (k : EntryKey) (c : Cell) (q : EntryKey)
      → IsAbove (latest_of own) c.stamp → find key_cmp k rest ≡ None
      → joined_if_both joined_cells (find key_cmp q own)
      (cond (eq_by_cmp key_cmp q k) (Some c) (find key_cmp q rest))
      ≡ joined_if_both joined_cells (cond (eq_by_cmp key_cmp q k) (Some c) (find key_cmp q own))
      (find key_cmp q rest)
  at_key own rest k c q above none =
      elim (eq_by_cmp key_cmp q k) as (λ t. eq_by_cmp key_cmp q k ≡ t
      → joined_if_both joined_cells (find key_cmp q own) (cond t (Some c) (find key_cmp q rest))
      ≡ joined_if_both joined_cells (cond t (Some c) (find key_cmp q own))
      (find key_cmp q rest)) [
        | true ↦ λ t.
            let same : q ≡ k = key_cmp_exact q k (tied (key_cmp q k) t) in
            of_own (find key_cmp q own) refl
            ∙ sym (ap (joined_if_both joined_cells (Some c))
            (ap (λ (x : EntryKey). find key_cmp x rest) same ∙ none))
        | false ↦ λ t. refl
      ] refl
    where
      of_own : (o : Option Cell) → find key_cmp q own ≡ o
          → joined_if_both joined_cells o (Some c) ≡ Some c
      of_own None is = refl
      of_own (Some d) is = ap Some (joined_later d c (held_less own q d c.stamp above is))

  -- joined with the site they are put, each with its stamp
  pub changes_made : (labels : List Change) (own cells : Entries) → IsMap key_cmp own
      → IsMap key_cmp cells → AreStamped now name (latest_of own) labels cells
      → Makes now name labels own (joined own cells)
  changes_made [] own cells map sorted are =
      ap (joined own) are ∙ joined_of_maps key_cmp key_cmp_total joined_cells own [] map
      (subst (IsMap key_cmp) are sorted)
  changes_made (e ∷ es) own cells map sorted (stamp, rest, next, is, more) = (
    stamp,
    next,
    subst
        (Makes now name es (put key_cmp e.0 c own))
        (sym whole)
        (changes_made es (put key_cmp e.0 c own) rest map_put map_rest
        (subst (λ (l : Option Stamp). AreStamped now name l es rest)
        (sym (latest_put e.0 c own next.new.above)) more)),
  )
    where
      c : Cell
      c = record { stamp = stamp; label = e.1 }

      sorted_all : IsMap key_cmp ((e.0, c) ∷ rest)
      sorted_all = subst (IsMap key_cmp) is sorted

      map_rest : IsMap key_cmp rest
      map_rest = second_part (below_all key_cmp e.0 rest) (is_sorted key_cmp rest) sorted_all

      map_put : IsMap key_cmp (put key_cmp e.0 c own)
      map_put = is_sorted-put key_cmp key_cmp_total e.0 c own map

      none : find key_cmp e.0 rest ≡ None
      none =
          find-below key_cmp e.0 rest
          (first_part (below_all key_cmp e.0 rest) (is_sorted key_cmp rest) sorted_all)

      whole : joined own cells ≡ joined (put key_cmp e.0 c own) rest
      whole =
          ap (joined own) is
          ∙ same_maps key_cmp key_cmp_total key_cmp_exact (joined own ((e.0, c) ∷ rest))
          (joined (put key_cmp e.0 c own) rest)
          (joined_maps-IsMap key_cmp key_cmp_total joined_cells own ((e.0, c) ∷ rest) map
          sorted_all)
          (joined_maps-IsMap key_cmp key_cmp_total joined_cells (put key_cmp e.0 c own) rest map_put
          map_rest)
          (λ q. find-joined_maps key_cmp key_cmp_total joined_cells own ((e.0, c) ∷ rest) map
          sorted_all q
          ∙ at_key own rest e.0 c q next.new.above none
          ∙ ap (λ (o : Option Cell). joined_if_both joined_cells o (find key_cmp q rest))
          (sym (find-put key_cmp key_cmp_total q e.0 c own))
          ∙ sym (find-joined_maps key_cmp key_cmp_total joined_cells (put key_cmp e.0 c own) rest
          map_put map_rest q))

  -- joined with them the site has the changes, where the two agree
  pub stamped_made : (own seen : Entries) (changes : List Change) → IsMap key_cmp own
      → Agree seen own → AreStamped now name (latest_of own) changes seen
      → Makes now name changes own (joined seen own)
  stamped_made own seen changes map agree are =
      let back = agrees_back seen own agree in
      subst (Makes now name changes own) (sym (joined_back seen own agree))
      (changes_made changes own seen map (agree_second own seen map back) are)

  -- ---- one change more

  -- a change more has the next stamp
  pub stamped_more : (last : Option Stamp) (old new : StampedRows) (taken : List Change)
      (e : Change) (stamp : Stamp) → HoldsStamped now name last old taken
      → IsAboveAll e.0 taken
      → IsNext old.latest old.now old.name stamp
      → ((seen : Entries) → IsAboveAll e.0 seen
      → IsSyncedTo untested old.site.now old.rows old.draft seen
      → IsSyncedTo untested new.site.now new.rows new.draft
      (seen ++ (e.0, record { stamp = stamp; label = e.1 }) ∷ []))
      → new.latest ≡ Some stamp → new.now ≡ old.now → new.name ≡ old.name
      → HoldsStamped now name last new (taken ++ e ∷ [])
  stamped_more last old new taken e stamp holds above next synced latest time site =
      let c : Entry = (e.0, record { stamp = stamp; label = e.1 }) in
      let next_here : IsNext old.latest now name stamp =
      subst (λ (n : ℕ). IsNext old.latest n name stamp) holds.time
      (subst (λ (n : List ℕ). IsNext old.latest old.now n stamp) holds.site next) in record {
        cells = holds.cells ++ c ∷ [];
        time = time ∙ holds.time;
        site = site ∙ holds.site;
        stamps =
            λ changes more are.
            subst
            (λ (ls : List Change). AreStamped now name last ls
            ((holds.cells ++ c ∷ []) ++ more))
            (sym (append_assoc taken (e ∷ []) changes))
            (subst (AreStamped now name last (taken ++ e ∷ changes))
            (sym (append_assoc holds.cells (c ∷ []) more))
            (holds.stamps (e ∷ changes) (c ∷ more) (
              stamp,
              more,
              next_here,
              refl,
              subst (λ (l : Option Stamp). AreStamped now name l changes more) latest are,
            )));
        above =
            λ key all.
            let P : Entry → Type 0 = λ (x : Entry). key_cmp x.0 key ≡ Less in
            All-append P holds.cells (c ∷ []) (holds.above key (above_before taken e key all))
            (All-cons P c [] (above_one taken e key all) (All-nil P));
        synced = synced holds.cells (holds.above e.0 above) holds.synced;
      }

  -- all changes that were taken have their stamps
  pub stamped_all : (last : Option Stamp) (stamped : StampedRows) (taken : List Change)
      (holds : HoldsStamped now name last stamped taken)
      → AreStamped now name last taken holds.cells
  stamped_all last stamped taken holds =
      subst (λ (ls : List Change). AreStamped now name last ls holds.cells)
      (append-nil taken)
      (subst (AreStamped now name last (taken ++ [])) (append-nil holds.cells)
      (holds.stamps [] [] refl))

-- no change yet
pub stamped_none : (now : ℕ) (name : List ℕ) (last : Option Stamp) (stamped : StampedRows)
    → stamped.now ≡ now → stamped.name ≡ name → stamped.latest ≡ last
    → IsSyncedTo untested stamped.site.now stamped.rows stamped.draft []
    → HoldsStamped now name last stamped []
stamped_none now name last stamped time site latest synced = record {
  cells = [];
  time = time;
  site = site;
  stamps =
      λ changes more are. subst (λ (l : Option Stamp). AreStamped now name l changes more) latest
      are;
  above = λ key all. All-nil (λ (x : Entry). key_cmp x.0 key ≡ Less);
  synced = synced;
}

-- what holds by some values holds by equal ones
pub stamped_same : (n m : ℕ) (a b : List ℕ) (k l : Option Stamp) (stamped : StampedRows)
    (taken : List Change) → n ≡ m → a ≡ b → k ≡ l → HoldsStamped n a k stamped taken
    → HoldsStamped m b l stamped taken
stamped_same n m a b k l stamped taken time site latest holds =
    subst (λ (t : ℕ). HoldsStamped t b l stamped taken) time
    (subst (λ (s : List ℕ). HoldsStamped n s l stamped taken) site
    (subst (λ (o : Option Stamp). HoldsStamped n a o stamped taken) latest holds))

-- ---- labels that are put

-- labels that are put after others
pub puts_append : (some more : List Labelled)
    → puts_of (some ++ more) ≡ puts_of some ++ puts_of more
puts_append some more = map-append (λ (x : Labelled). (x.0, Some x.1)) some more

-- a key that is above labels is above them as they are put
pub puts_above : (labels : List Labelled) (key : EntryKey) → IsAboveAll key labels
    → IsAboveAll key (puts_of labels)
puts_above labels key above =
    All-map (λ (e : Change). key_cmp e.0 key ≡ Less) (λ (x : Labelled). (x.0, Some x.1)) labels
    above

-- one more of them
pub puts_more : (labels : List Labelled) (e : Labelled)
    → puts_of (labels ++ e ∷ []) ≡ puts_of labels ++ (e.0, Some e.1) ∷ []
puts_more labels e = puts_append labels (e ∷ [])

module _ (items : List Labelled) (i : ℕ) (item : Labelled)
    (below : i < length items) (at : item ≡ get_or items i item) where
  -- of labels in ascending order one is above those before it
  pub above_labels_before : IsMap key_cmp items → IsAboveAll item.0 (take i items)
  above_labels_before ascend =
      front_below (take i items) (drop (i + 1) items) item.0 item.1
      (subst (IsMap key_cmp)
      (sym (take-append-drop i items)
      ∙ ap (λ (ls : List Labelled). take i items ++ ls) (first_left items i item below at)) ascend)

  -- those before it and it
  pub labels_more : take (i + 1) items ≡ take i items ++ item ∷ []
  labels_more =
      take_more items i item below ∙ ap (λ (l : Labelled). take i items ++ l ∷ []) (sym at)

-- ---- entries that are taken one after another

module _ {X V : Type 0} (entry : X → EntryKey × V) (items : List X) (i : ℕ) (item : X)
    (below : i < length items) (at : item ≡ get_or items i item) where
  whole : map entry items ≡ map entry (take i items) ++ entry item ∷ map entry (drop (i + 1) items)
  whole =
      ap (map entry) (sym (take-append-drop i items))
      ∙ map-append entry (take i items) (drop i items)
      ∙ ap (λ (xs : List X). map entry (take i items) ++ map entry xs)
      (first_left items i item below at)

  -- an entry of a map is above those before it
  pub above_taken : IsMap key_cmp (map entry items)
      → IsAboveAll (entry item).0 (map entry (take i items))
  above_taken ascend =
      front_below (map entry (take i items)) (map entry (drop (i + 1) items)) (entry item).0
      (entry item).1 (subst (IsMap key_cmp) whole ascend)

  -- those before it and the entry
  pub taken_more : map entry (take (i + 1) items) ≡ map entry (take i items) ++ entry item ∷ []
  taken_more =
      ap (map entry) (take_more items i item below
      ∙ ap (λ (x : X). take i items ++ x ∷ []) (sym at))
      ∙ map-append entry (take i items) (item ∷ [])
