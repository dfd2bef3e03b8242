-- Maps that are joined entry by entry, in ascending order of key.
--
-- Both maps are seen from their first key on, and what is written so far is the join of what was
-- seen of both. So an entry that comes next is above all of it: put at the end it is found by its
-- own key alone, and the join grows by just this entry. Three cases go on from there, as the key is
-- in the own map, in the other one or in both. The two agree as long as each common key agrees; at
-- the first that does not, all before it do, and this clash stays the first.
use Rattle.std.proofs.Common.{◌≡◌, ◌≢◌, ◌∙◌, ◌<◌, ◌++◌, [], ◌∷◌, ℕ, List, Option, Some, None}
use Rattle.std.proofs.Common.{append-nil, append_assoc, ap, arith, cond, false, inr, length}
use Rattle.std.proofs.Common.{refl, subst, suc, sym, true, true≢false, zero}
use Rattle.std.proofs.lemmas.List.Elements.{All-append, All-cons, All-nil, All-weaker}
use Rattle.std.specs.Prelude.{All, T, is_some, slice_get}
use Rattle.std.specs.declared.cmp.Ordering.{Ordering}
use Rattle.std.specs.declared.cmp.Ordering.TheVariants.{Less, Equal, Greater}
use Rattle.std.specs.FinMap.Entries.{below_all, by_order, find, is_sorted, put}
use Rattle.std.specs.Ordering.{eq_by_cmp, is_eq, is_lt, ordering_reverse}
use Rattle.cell_core.specs.Cell.{AgreeCells, joined_cells}
use Rattle.cell_core.specs.inner.Cell.{stamp_cmp_total}
use Rattle.cell_core.specs.Stamp.{stamp_cmp}
use Rattle.cell_core.specs.Keyed.{AgreeIfBoth, IsMap, joined_at, joined_entries}
use Rattle.cell_core.specs.inner.KeyedLaws.{joined_entries-IsMap, joined_of_maps}
use Rattle.cell_core.specs.declared.stamp.Stamp.{Stamp}
use Rattle.cell_core.specs.declared.cell.Cell.{Cell}
use Rattle.catalogue.specs.Clash.{IsFirstClash}
use Rattle.cell_core.specs.Entry.{EntryKey, key_cmp}
use Rattle.catalogue.specs.Entries.{Agree, Entries, Entry, IsAboveAll, joined}
use Rattle.cell_core.specs.inner.Entry.{key_cmp_exact, key_cmp_total}
use Rattle.catalogue.proofs.Basics.{some_same}
use Rattle.catalogue.proofs.CatalogueAboveLemmas.{IsMap-behind, front_below, put_behind}
use Rattle.catalogue.proofs.CatalogueBestLemmas.{own_key}
use Rattle.catalogue.proofs.ClashLemmas.{found_at}
use Rattle.catalogue.proofs.CatalogueFlatLemmas.{all_first, all_rest}
use Rattle.catalogue.proofs.EditStampOrderLemmas.{not_less_self}
use Rattle.docs_core.specs.inner.JoinedRows.{AreJoined, IsFirstGreater, IsJoinedTo, IsJoining}
use Rattle.docs_core.specs.inner.JoinedRows.{IsJoiningAs, IsJoiningBefore}
use Rattle.site_docs.specs.RowsDraft.{HoldsRows}
use Rattle.site_docs.specs.declared.rows_draft.RowsDraft.{RowsDraft}
use Rattle.catalogue.proofs.CatalogueApplyLemmas.{with_none as agree_none}
use Rattle.cata_core.proofs.RunsSpreadingLemmas.{get_next as last_there}
use Rattle.cell_core.proofs.Basics.{first_part, less_than, second_part}
use Rattle.cell_core.proofs.ChunkLemmas.{map_back, map_front}
use Rattle.cell_core.proofs.Basics.{tied_order as tied}

-- ---- of an entry after all others

-- a lesser key is another
apart : (k l : EntryKey) → key_cmp k l ≡ Less → eq_by_cmp key_cmp k l ≡ false
apart k l less = ap is_eq less

module _ {J : Type 0} where
  -- a lesser key is put before the last entry
  put_before : (es : List (EntryKey × J)) (d : EntryKey × J) (k : EntryKey) (v : J)
      → key_cmp k d.0 ≡ Less
      → put key_cmp k v (es ++ d ∷ []) ≡ put key_cmp k v es ++ d ∷ []
  put_before [] d k v less =
      ap (λ r. by_order r ((k, v) ∷ d ∷ []) ((d.0, v) ∷ []) (d ∷ (k, v) ∷ [])) less
  put_before (e ∷ es) d k v less =
      elim (key_cmp k e.0) as (λ r.
      by_order r ((k, v) ∷ e ∷ (es ++ d ∷ [])) ((e.0, v) ∷ (es ++ d ∷ []))
      (e ∷ put key_cmp k v (es ++ d ∷ []))
      ≡ by_order r ((k, v) ∷ e ∷ es) ((e.0, v) ∷ es) (e ∷ put key_cmp k v es) ++ d ∷ []) [
        | Less ↦ refl
        | Equal ↦ refl
        | Greater ↦ ap (λ t. e ∷ t) (put_before es d k v less)
      ]

  -- the last entry is found by no other key
  find_before : (es : List (EntryKey × J)) (d : EntryKey × J) (k : EntryKey)
      → eq_by_cmp key_cmp k d.0 ≡ false → find key_cmp k (es ++ d ∷ []) ≡ find key_cmp k es
  find_before [] d k other = ap (λ b. cond b (Some d.1) None) other
  find_before (e ∷ es) d k other =
      ap (λ o. cond (eq_by_cmp key_cmp k e.0) (Some e.1) o) (find_before es d k other)

  -- a key above all others is greater than the first
  above_first : (e : EntryKey × J) (es : List (EntryKey × J)) (k : EntryKey)
      → IsAboveAll k (e ∷ es) → key_cmp k e.0 ≡ Greater
  above_first e es k above =
      key_cmp_total.antisymm k e.0
      ∙ ap ordering_reverse (all_first (λ (x : EntryKey × J). key_cmp x.0 k ≡ Less) e es above)

  above_rest : (e : EntryKey × J) (es : List (EntryKey × J)) (k : EntryKey)
      → IsAboveAll k (e ∷ es) → IsAboveAll k es
  above_rest e es k above = all_rest (λ (x : EntryKey × J). key_cmp x.0 k ≡ Less) e es above

  -- a key above all others is none of theirs
  pub find_above : (es : List (EntryKey × J)) (k : EntryKey) → IsAboveAll k es
      → find key_cmp k es ≡ None
  find_above [] k above = refl
  find_above (e ∷ es) k above =
      ap (λ b. cond b (Some e.1) (find key_cmp k es)) (ap is_eq (above_first e es k above))
      ∙ find_above es k (above_rest e es k above)

  -- the last entry is found by its key
  pub find_last : (es : List (EntryKey × J)) (k : EntryKey) (v : J) → IsAboveAll k es
      → find key_cmp k (es ++ (k, v) ∷ []) ≡ Some v
  find_last [] k v above = ap (λ b. cond b (Some v) None) (own_key k)
  find_last (e ∷ es) k v above =
      ap (λ b. cond b (Some e.1) (find key_cmp k (es ++ (k, v) ∷ [])))
      (ap is_eq (above_first e es k above))
      ∙ find_last es k v (above_rest e es k above)

  -- put at its key the last entry has another value
  put_last : (es : List (EntryKey × J)) (k : EntryKey) (v w : J) → IsAboveAll k es
      → put key_cmp k w (es ++ (k, v) ∷ []) ≡ es ++ (k, w) ∷ []
  put_last [] k v w above =
      ap (λ r. by_order r ((k, w) ∷ (k, v) ∷ []) ((k, w) ∷ []) ((k, v) ∷ (k, w) ∷ []))
      (tied (key_cmp k k) (own_key k))
  put_last (e ∷ es) k v w above =
      ap (λ r. by_order r ((k, w) ∷ e ∷ (es ++ (k, v) ∷ [])) ((e.0, w) ∷ (es ++ (k, v) ∷ []))
      (e ∷ put key_cmp k w (es ++ (k, v) ∷ [])))
      (above_first e es k above)
      ∙ ap (λ t. e ∷ t) (put_last es k v w (above_rest e es k above))

-- ---- joins of one entry more

-- what the joined entries are with one more of the other's, above all
joined_other : (own other : Entries) (d : Entry) → IsAboveAll d.0 own → IsAboveAll d.0 other
    → joined_entries key_cmp joined_cells own (other ++ d ∷ [])
    ≡ joined_entries key_cmp joined_cells own other ++ d ∷ []
joined_other own [] d above_own above =
    ap (λ o. put key_cmp d.0 (joined_at joined_cells o d.1) own) (find_above own d.0 above_own)
    ∙ put_behind own d.0 d.1 above_own
joined_other own (e ∷ es) d above_own above =
    let v = joined_at joined_cells (find key_cmp e.0 own) e.1 in
    let less = all_first (λ (x : Entry). key_cmp x.0 d.0 ≡ Less) e es above in
    ap (put key_cmp e.0 v) (joined_other own es d above_own (above_rest e es d.0 above))
    ∙ put_before (joined_entries key_cmp joined_cells own es) d e.0 v less

-- what they are with one more of the own, above all
joined_own : (own other : Entries) (e : Entry) → IsAboveAll e.0 other
    → joined_entries key_cmp joined_cells (own ++ e ∷ []) other
    ≡ joined_entries key_cmp joined_cells own other ++ e ∷ []
joined_own own [] e above = refl
joined_own own (d ∷ ds) e above =
    let less = all_first (λ (x : Entry). key_cmp x.0 e.0 ≡ Less) d ds above in
    ap (λ o. put key_cmp d.0 (joined_at joined_cells o d.1)
    (joined_entries key_cmp joined_cells (own ++ e ∷ []) ds))
    (find_before own e d.0 (apart d.0 e.0 less))
    ∙ ap (put key_cmp d.0 (joined_at joined_cells (find key_cmp d.0 own) d.1))
    (joined_own own ds e (above_rest d ds e.0 above))
    ∙ put_before (joined_entries key_cmp joined_cells own ds) e d.0
    (joined_at joined_cells (find key_cmp d.0 own) d.1) less

-- what they are with one more of both, at one key above all
joined_both : (own other : Entries) (k : EntryKey) (c d : Cell) → IsAboveAll k own
    → IsAboveAll k other
    → joined_entries key_cmp joined_cells (own ++ (k, c) ∷ []) (other ++ (k, d) ∷ [])
    ≡ joined_entries key_cmp joined_cells own other ++ (k, joined_cells c d) ∷ []
joined_both own [] k c d above_own above =
    ap (λ o. put key_cmp k (joined_at joined_cells o d) (own ++ (k, c) ∷ []))
    (find_last own k c above_own)
    ∙ put_last own k c (joined_cells c d) above_own
joined_both own (e ∷ es) k c d above_own above =
    let less = all_first (λ (x : Entry). key_cmp x.0 k ≡ Less) e es above in
    ap (λ o. put key_cmp e.0 (joined_at joined_cells o e.1)
    (joined_entries key_cmp joined_cells (own ++ (k, c) ∷ []) (es ++ (k, d) ∷ [])))
    (find_before own (k, c) e.0 (apart e.0 k less))
    ∙ ap (put key_cmp e.0 (joined_at joined_cells (find key_cmp e.0 own) e.1))
    (joined_both own es k c d above_own (above_rest e es k above))
    ∙ put_before (joined_entries key_cmp joined_cells own es) (k, joined_cells c d) e.0
    (joined_at joined_cells (find key_cmp e.0 own) e.1) less

-- ---- maps that agree, with one entry more

-- what two agree on at a key, where one entry more is at another key or at this one
at_more : (k : EntryKey) (P : EntryKey → Type 0) → P k
    → ((q : EntryKey) → eq_by_cmp key_cmp q k ≡ false → P q) → (q : EntryKey) → P q
at_more k P here there q =
    elim (eq_by_cmp key_cmp q k) as (λ t. eq_by_cmp key_cmp q k ≡ t → P q) [
      | true ↦ λ t. subst P (sym (key_cmp_exact q k (tied (key_cmp q k) t))) here
      | false ↦ λ t. there q t
    ] refl

-- one entry more of the other's
joins_other : (own other rows : Entries) (d : Entry) → AreJoined own other rows
    → IsAboveAll d.0 own → IsAboveAll d.0 other
    → AreJoined own (other ++ d ∷ []) (rows ++ d ∷ [])
joins_other own other rows d so_far above_own above = record {
  agree = record {
    first = so_far.agree.first;
    second = IsMap-behind other d.0 d.1 so_far.agree.second above;
    at =
        at_more d.0
        (λ q. AgreeIfBoth AgreeCells (find key_cmp q own) (find key_cmp q (other ++ d ∷ [])))
        (subst (λ o. AgreeIfBoth AgreeCells o (find key_cmp d.0 (other ++ d ∷ [])))
        (sym (find_above own d.0 above_own)) tt)
        (λ q apart. subst (AgreeIfBoth AgreeCells (find key_cmp q own))
        (sym (find_before other d q apart)) (so_far.agree.at q));
  };
  are = ap (λ t. t ++ d ∷ []) so_far.are ∙ sym (joined_other own other d above_own above);
}

-- some entries more of the other's
joins_others : (own other rows more : Entries) → AreJoined own other rows
    → IsMap key_cmp (other ++ more) → All (λ (d : Entry). IsAboveAll d.0 own) more
    → AreJoined own (other ++ more) (rows ++ more)
joins_others own other rows [] so_far map above =
    subst (λ t. AreJoined own t (rows ++ [])) (sym (append-nil other))
    (subst (AreJoined own other) (sym (append-nil rows)) so_far)
joins_others own other rows (d ∷ ds) so_far map above =
    let P : Entry → Type 0 = λ (d : Entry). IsAboveAll d.0 own in
    let others = append_assoc other (d ∷ []) ds in
    subst (λ t. AreJoined own t (rows ++ d ∷ ds)) others
    (subst (AreJoined own ((other ++ d ∷ []) ++ ds)) (append_assoc rows (d ∷ []) ds)
    (joins_others own (other ++ d ∷ []) (rows ++ d ∷ []) ds
    (joins_other own other rows d so_far (all_first P d ds above)
    (front_below other ds d.0 d.1 map))
    (subst (IsMap key_cmp) (sym others) map) (all_rest P d ds above)))

-- one entry more of the own
joins_own : (own other rows : Entries) (e : Entry) → AreJoined own other rows
    → IsAboveAll e.0 own → IsAboveAll e.0 other
    → AreJoined (own ++ e ∷ []) other (rows ++ e ∷ [])
joins_own own other rows e so_far above_own above = record {
  agree = record {
    first = IsMap-behind own e.0 e.1 so_far.agree.first above_own;
    second = so_far.agree.second;
    at =
        at_more e.0
        (λ q. AgreeIfBoth AgreeCells (find key_cmp q (own ++ e ∷ [])) (find key_cmp q other))
        (subst (AgreeIfBoth AgreeCells (find key_cmp e.0 (own ++ e ∷ [])))
        (sym (find_above other e.0 above)) (agree_none (find key_cmp e.0 (own ++ e ∷ []))))
        (λ q apart. subst (λ o. AgreeIfBoth AgreeCells o (find key_cmp q other))
        (sym (find_before own e q apart)) (so_far.agree.at q));
  };
  are = ap (λ t. t ++ e ∷ []) so_far.are ∙ sym (joined_own own other e above);
}

-- one entry more of both, at one key
joins_both : (own other rows : Entries) (k : EntryKey) (c d : Cell) → AreJoined own other rows
    → IsAboveAll k own → IsAboveAll k other → AgreeCells c d
    → AreJoined (own ++ (k, c) ∷ []) (other ++ (k, d) ∷ []) (rows ++ (k, joined_cells c d) ∷ [])
joins_both own other rows k c d so_far above_own above agree = record {
  agree = record {
    first = IsMap-behind own k c so_far.agree.first above_own;
    second = IsMap-behind other k d so_far.agree.second above;
    at =
        at_more k
        (λ q. AgreeIfBoth AgreeCells (find key_cmp q (own ++ (k, c) ∷ []))
        (find key_cmp q (other ++ (k, d) ∷ [])))
        (subst (λ o. AgreeIfBoth AgreeCells o (find key_cmp k (other ++ (k, d) ∷ [])))
        (sym (find_last own k c above_own))
        (subst (AgreeIfBoth AgreeCells (Some c)) (sym (find_last other k d above)) agree))
        (λ q apart. subst (λ o. AgreeIfBoth AgreeCells o (find key_cmp q (other ++ (k, d) ∷ [])))
        (sym (find_before own (k, c) q apart))
        (subst (AgreeIfBoth AgreeCells (find key_cmp q own))
        (sym (find_before other (k, d) q apart)) (so_far.agree.at q)));
  };
  are =
      ap (λ t. t ++ (k, joined_cells c d) ∷ []) so_far.are
      ∙ sym (joined_both own other k c d above_own above);
}

-- ---- keys after those of a part

-- a key below all others
abbrev pub AreAfter : EntryKey → Entries → Type 0
AreAfter k = All (λ (d : Entry). key_cmp k d.0 ≡ Less)

-- A key below all keys of a list is below each.
pub all_after : (k : EntryKey) (es : Entries) → T (below_all key_cmp k es) → AreAfter k es
all_after k [] h = All-nil (λ (d : Entry). key_cmp k d.0 ≡ Less)
all_after k (e ∷ es) h =
    All-cons (λ (d : Entry). key_cmp k d.0 ≡ Less) e es
    (less_than (key_cmp k e.0)
    (first_part (is_lt (key_cmp k e.0)) (below_all key_cmp k es) h))
    (all_after k es (second_part (is_lt (key_cmp k e.0)) (below_all key_cmp k es) h))

-- those after the first of a map
pub after_first : (e : Entry) (es : Entries) → IsMap key_cmp (e ∷ es) → AreAfter e.0 es
after_first e es map =
    all_after e.0 es (first_part (below_all key_cmp e.0 es) (is_sorted key_cmp es) map)

-- a map whose first key is greater comes after the key
pub after_greater : (k : EntryKey) (es : Entries) → IsMap key_cmp es → IsFirstGreater k es
    → AreAfter k es
after_greater k [] map greater = All-nil (λ (d : Entry). key_cmp k d.0 ≡ Less)
after_greater k (e ∷ es) map greater =
    let first : key_cmp k e.0 ≡ Less =
    key_cmp_total.antisymm k e.0 ∙ ap ordering_reverse greater in
    All-cons (λ (d : Entry). key_cmp k d.0 ≡ Less) e es first
    (All-weaker (λ (d : Entry). key_cmp e.0 d.0 ≡ Less) (λ (d : Entry). key_cmp k d.0 ≡ Less)
    (λ d after. key_cmp_total.trans k e.0 d.0 first after) es (after_first e es map))

-- what all of two parts are, all of each are
all_parts : {X : Type 0} (P : X → Type 0) (xs ys : List X) → All P (xs ++ ys)
    → All P xs × All P ys
all_parts P [] ys all = (All-nil P, all)
all_parts P (x ∷ xs) ys all =
    let rest = all_parts P xs ys (all_rest P x (xs ++ ys) all) in
    (All-cons P x xs (all_first P x (xs ++ ys) all) rest.0, rest.1)

-- the last of some is as all are
all_last : {X : Type 0} (P : X → Type 0) (xs : List X) (x : X) → All P (xs ++ x ∷ []) → P x
all_last P [] x all = all_first P x [] all
all_last P (y ∷ xs) x all = all_last P xs x (all_rest P y (xs ++ x ∷ []) all)

-- keys that come after a key and after others come after these and it
above_more : (seen left : Entries) (e : Entry) → All (λ (d : Entry). IsAboveAll d.0 seen) left
    → AreAfter e.0 left → All (λ (d : Entry). IsAboveAll d.0 (seen ++ e ∷ [])) left
above_more seen [] e above after = All-nil (λ (d : Entry). IsAboveAll d.0 (seen ++ e ∷ []))
above_more seen (d ∷ ds) e above after =
    let P : Entry → Type 0 = λ (d : Entry). IsAboveAll d.0 seen in
    let Q : Entry → Type 0 = λ (d : Entry). key_cmp e.0 d.0 ≡ Less in
    let R : Entry → Type 0 = λ (x : Entry). key_cmp x.0 d.0 ≡ Less in
    All-cons (λ (d : Entry). IsAboveAll d.0 (seen ++ e ∷ [])) d ds
    (All-append R seen (e ∷ []) (all_first P d ds above)
    (All-cons R e [] (all_first Q d ds after) (All-nil R)))
    (above_more seen ds e (all_rest P d ds above) (all_rest Q d ds after))

-- a key above what was seen, and so above a key of it, is above what is below that
above_taken : (seen taken : Entries) (k key : EntryKey) (c : Cell) → IsAboveAll k taken
    → IsAboveAll key (seen ++ (k, c) ∷ []) → IsAboveAll key taken
above_taken seen taken k key c above all =
    let last = all_last (λ (x : Entry). key_cmp x.0 key ≡ Less) seen (k, c) all in
    All-weaker (λ (x : Entry). key_cmp x.0 k ≡ Less) (λ (x : Entry). key_cmp x.0 key ≡ Less)
    (λ x less. key_cmp_total.trans x.0 k key less last) taken above

-- ---- what is seen one after another

-- the other's entries before the key are taken
pub joining_before : (key : EntryKey) (left others seen rows less more : Entries)
    → IsJoining left others seen rows → left ≡ less ++ more
    → All (λ (e : Entry). key_cmp e.0 key ≡ Less) less → IsAboveAll key seen
    → IsJoiningBefore key more others seen (rows ++ less)
joining_before key left others seen rows less more so_far cut are_less above =
    let all = so_far.all ∙ ap (λ l. so_far.taken ++ l) cut
    ∙ sym (append_assoc so_far.taken less more) in
    let P : Entry → Type 0 = λ (d : Entry). IsAboveAll d.0 seen in
    let parts = all_parts P less more (subst (All P) cut so_far.above) in record {
      taken = so_far.taken ++ less;
      all = all;
      map = so_far.map;
      joined =
          joins_others seen so_far.taken rows less so_far.joined
          (map_front key_cmp (so_far.taken ++ less) more (subst (IsMap key_cmp) all so_far.map))
          parts.0;
      below =
          All-append (λ (e : Entry). key_cmp e.0 key ≡ Less) so_far.taken less
          (so_far.below key above) are_less;
      above = parts.1;
    }

-- the key is seen, and the other has it not
pub joining_own : (k : EntryKey) (c : Cell) (left others seen rows : Entries)
    → IsJoiningBefore k left others seen rows → IsFirstGreater k left → IsAboveAll k seen
    → IsJoining left others (seen ++ (k, c) ∷ []) (rows ++ (k, c) ∷ [])
joining_own k c left others seen rows so_far greater above =
    let whole = subst (IsMap key_cmp) so_far.all so_far.map in
    let after = after_greater k left (map_back key_cmp so_far.taken left whole) greater in record {
      taken = so_far.taken;
      all = so_far.all;
      map = so_far.map;
      joined = joins_own seen so_far.taken rows (k, c) so_far.joined above so_far.below;
      below = λ key all. above_taken seen so_far.taken k key c so_far.below all;
      above = above_more seen left (k, c) so_far.above after;
    }

-- the key is seen, and the other has it
pub joining_both : (k : EntryKey) (c d : Cell) (left more others seen rows : Entries)
    → IsJoiningBefore k left others seen rows → left ≡ (k, d) ∷ more → IsAboveAll k seen
    → AgreeCells c d
    → IsJoining more others (seen ++ (k, c) ∷ []) (rows ++ (k, joined_cells c d) ∷ [])
joining_both k c d left more others seen rows so_far first above agree =
    let all = so_far.all ∙ ap (λ l. so_far.taken ++ l) first
    ∙ sym (append_assoc so_far.taken ((k, d) ∷ []) more) in
    let whole = subst (IsMap key_cmp) (so_far.all ∙ ap (λ l. so_far.taken ++ l) first) so_far.map in
    let after = after_first (k, d) more (map_back key_cmp so_far.taken ((k, d) ∷ more) whole) in
    let P : Entry → Type 0 = λ (e : Entry). IsAboveAll e.0 seen in
    let rest = all_rest P (k, d) more (subst (All P) first so_far.above) in record {
      taken = so_far.taken ++ (k, d) ∷ [];
      all = all;
      map = so_far.map;
      joined = joins_both seen so_far.taken rows k c d so_far.joined above so_far.below agree;
      below =
          λ key all. All-append (λ (x : Entry). key_cmp x.0 key ≡ Less) so_far.taken ((k, d) ∷ [])
          (above_taken seen so_far.taken k key c so_far.below all)
          (All-cons (λ (x : Entry). key_cmp x.0 key ≡ Less) (k, d) []
          (all_last (λ (x : Entry). key_cmp x.0 key ≡ Less) seen (k, c) all)
          (All-nil (λ (x : Entry). key_cmp x.0 key ≡ Less)));
      above = above_more seen more (k, c) rest after;
    }

-- what comes after an entry comes after all before it
above_next : (seen next : Entries) (d : Entry) → IsAboveAll d.0 seen → AreAfter d.0 next
    → All (λ (x : Entry). IsAboveAll x.0 seen) next
above_next seen [] d above after = All-nil (λ (x : Entry). IsAboveAll x.0 seen)
above_next seen (x ∷ xs) d above after =
    let P : Entry → Type 0 = λ (x : Entry). key_cmp d.0 x.0 ≡ Less in
    let less = all_first P x xs after in
    All-cons (λ (x : Entry). IsAboveAll x.0 seen) x xs
    (All-weaker (λ (y : Entry). key_cmp y.0 d.0 ≡ Less) (λ (y : Entry). key_cmp y.0 x.0 ≡ Less)
    (λ y before. key_cmp_total.trans y.0 d.0 x.0 before less) seen above)
    (above_next seen xs d above (all_rest P x xs after))

-- what is read after the one entry that is left comes after it
read_after : (d : Entry) (taken others next : Entries) → others ≡ taken ++ d ∷ []
    → IsMap key_cmp (others ++ next) → AreAfter d.0 next
read_after d taken others next all map =
    after_first d next (map_back key_cmp taken (d ∷ next)
    (subst (IsMap key_cmp)
    (ap (λ o. o ++ next) all ∙ append_assoc taken (d ∷ []) next) map))

-- the one entry that is left is taken, and more is read
pub joining_next : {Below After : Entries → Type 0} (d : Entry) (next others seen rows : Entries)
    → IsJoiningAs Below (d ∷ []) others seen rows → IsMap key_cmp (others ++ next)
    → ((taken : Entries) → Below taken → After (taken ++ d ∷ []))
    → IsJoiningAs After next (others ++ next) seen (rows ++ d ∷ [])
joining_next d next others seen rows so_far map below = record {
  taken = so_far.taken ++ d ∷ [];
  all = ap (λ o. o ++ next) so_far.all;
  map = map;
  joined =
      joins_other seen so_far.taken rows d so_far.joined
      (all_first (λ (x : Entry). IsAboveAll x.0 seen) d [] so_far.above)
      (front_below so_far.taken [] d.0 d.1 (subst (IsMap key_cmp) so_far.all so_far.map));
  below = below so_far.taken so_far.below;
  above =
      above_next seen next d (all_first (λ (x : Entry). IsAboveAll x.0 seen) d [] so_far.above)
      (read_after d so_far.taken others next so_far.all map);
}

-- the key is seen, the one entry that is left has it, and more is read
pub joining_equal : (k : EntryKey) (c d : Cell) (next others seen rows : Entries)
    → IsJoiningBefore k ((k, d) ∷ []) others seen rows → IsMap key_cmp (others ++ next)
    → IsAboveAll k seen → AgreeCells c d
    → IsJoining next (others ++ next) (seen ++ (k, c) ∷ []) (rows ++ (k, joined_cells c d) ∷ [])
joining_equal k c d next others seen rows so_far map above agree =
    let both = joining_both k c d ((k, d) ∷ []) [] others seen rows so_far refl above agree in
    let after = read_after (k, d) so_far.taken others next so_far.all map in record {
      taken = both.taken;
      all = ap (λ o. o ++ next) (both.all ∙ append-nil both.taken);
      map = map;
      joined = both.joined;
      below = both.below;
      above = above_more seen next (k, c) (above_next seen next (k, d) above after) after;
    }

-- all was seen: the rows and what is left are the cells of both
joining_all : {Below : Entries → Type 0} (left others seen rows : Entries)
    → IsJoiningAs Below left others seen rows → AreJoined seen others (rows ++ left)
joining_all left others seen rows so_far =
    subst (λ t. AreJoined seen t (rows ++ left)) (sym so_far.all)
    (joins_others seen so_far.taken rows left so_far.joined
    (subst (IsMap key_cmp) so_far.all so_far.map) so_far.above)

-- both agree
pub joining_agrees : {Below : Entries → Type 0} (left others seen rows : Entries)
    → IsJoiningAs Below left others seen rows → Agree seen others
joining_agrees left others seen rows so_far =
    inr (joining_all left others seen rows so_far).agree

-- these are the cells of both, and a map
pub joining_ends : {Below : Entries → Type 0} (left others seen rows : Entries)
    → IsJoiningAs Below left others seen rows
    → (rows ++ left ≡ joined seen others) × IsMap key_cmp (joined seen others)
joining_ends left others seen rows so_far =
    let all = joining_all left others seen rows so_far in
    let same = joined_of_maps key_cmp key_cmp_total joined_cells seen others all.agree.first
    all.agree.second in (
      all.are ∙ sym same,
      subst (IsMap key_cmp) (sym same)
          (joined_entries-IsMap key_cmp key_cmp_total joined_cells seen others all.agree.first),
    )

-- ---- a key at which the two do not agree

still_there : {X : Type 0} (xs : List X) (x : X) (k : ℕ) → k < length xs
    → slice_get (xs ++ x ∷ []) k ≡ slice_get xs k
still_there [] x k within = absurd (omega (arith, within))
still_there (y ∷ xs) x zero within = refl
still_there (y ∷ xs) x (suc k) within = still_there xs x k (omega (arith, within))

within : {X : Type 0} (xs : List X) (x : X) (k : ℕ) → slice_get xs k ≡ Some x → k < length xs
within [] x k is = absurd (cc)
within (y ∷ xs) x zero is = omega arith
within (y ∷ xs) x (suc k) is = let less = within xs x k is in omega (arith, less)

-- what is found at the seam of two parts
pub find_seam : (xs ys : Entries) (k : EntryKey) (d : Cell) → IsAboveAll k xs
    → find key_cmp k (xs ++ (k, d) ∷ ys) ≡ Some d
find_seam [] ys k d above = ap (λ b. cond b (Some d) (find key_cmp k ys)) (own_key k)
find_seam (x ∷ xs) ys k d above =
    ap (λ b. cond b (Some x.1) (find key_cmp k (xs ++ (k, d) ∷ ys)))
    (ap is_eq (above_first x xs k above))
    ∙ find_seam xs ys k d (above_rest x xs k above)

-- what comes after a key is not found by it
pub find_part : (xs ys : Entries) (k : EntryKey) → AreAfter k ys
    → find key_cmp k (xs ++ ys) ≡ find key_cmp k xs
find_part [] [] k after = refl
find_part [] (y ∷ ys) k after =
    ap (λ b. cond b (Some y.1) (find key_cmp k ys))
    (apart k y.0 (all_first (λ (d : Entry). key_cmp k d.0 ≡ Less) y ys after))
    ∙ find_part [] ys k (all_rest (λ (d : Entry). key_cmp k d.0 ≡ Less) y ys after)
find_part (x ∷ xs) ys k after =
    ap (λ o. cond (eq_by_cmp key_cmp k x.0) (Some x.1) o) (find_part xs ys k after)

-- a key that was seen is below those that are left
seen_below : (seen left : Entries) (j : ℕ) (e : Entry) → slice_get seen j ≡ Some e
    → All (λ (d : Entry). IsAboveAll d.0 seen) left → AreAfter e.0 left
seen_below seen [] j e there above = All-nil (λ (d : Entry). key_cmp e.0 d.0 ≡ Less)
seen_below seen (d ∷ ds) j e there above =
    let P : Entry → Type 0 = λ (d : Entry). IsAboveAll d.0 seen in
    All-cons (λ (d : Entry). key_cmp e.0 d.0 ≡ Less) d ds
    (at_place seen j there (all_first P d ds above))
    (seen_below seen ds j e there (all_rest P d ds above))
  where
    at_place : (xs : Entries) (i : ℕ) → slice_get xs i ≡ Some e → IsAboveAll d.0 xs
        → key_cmp e.0 d.0 ≡ Less
    at_place [] i is all = absurd (cc)
    at_place (x ∷ xs) zero is all =
        subst (λ (y : Entry). key_cmp y.0 d.0 ≡ Less) (some_same x e is)
        (all_first (λ (y : Entry). key_cmp y.0 d.0 ≡ Less) x xs all)
    at_place (x ∷ xs) (suc i) is all =
        at_place xs i is (all_rest (λ (y : Entry). key_cmp y.0 d.0 ≡ Less) x xs all)

-- the key is seen, and the two do not agree there: all before it agree
pub joining_clashes : (k : EntryKey) (c d : Cell) (left more others seen rows : Entries)
    → IsJoiningBefore k left others seen rows → left ≡ (k, d) ∷ more → ¬ (AgreeCells c d)
    → IsFirstClash key_cmp (seen ++ (k, c) ∷ []) others (length seen) c.stamp
joining_clashes k c d left more others seen rows so_far first differ = record {
  before =
      λ j less q mine theirs held has.
      let there = sym (still_there seen (k, c) j less) ∙ held in
      let own = found_at seen j q mine so_far.joined.agree.first there in
      let part = sym (find_part so_far.taken left q
      (seen_below seen left j (q, mine) there so_far.above))
      ∙ ap (find key_cmp q) (sym so_far.all) ∙ has in
      subst (AgreeIfBoth AgreeCells (Some mine)) part
      (subst (λ o. AgreeIfBoth AgreeCells o (find key_cmp q so_far.taken)) own
      (so_far.joined.agree.at q));
  key = k;
  mine = c;
  theirs = d;
  held = last_there seen (k, c);
  other_has =
      ap (find key_cmp k) (so_far.all ∙ ap (λ l. so_far.taken ++ l) first)
      ∙ find_seam so_far.taken more k d so_far.below;
  differ = differ;
  stamp_there = refl;
}

-- a first clash stays the first where more is seen
pub clash_stays : (seen others : Entries) (e : Entry) (place : ℕ) (stamp : Stamp)
    → IsFirstClash key_cmp seen others place stamp
    → IsFirstClash key_cmp (seen ++ e ∷ []) others place stamp
clash_stays seen others e place stamp clash =
    let inside = within seen (clash.key, clash.mine) place clash.held in record {
      before =
          λ j less q mine theirs held has.
          clash.before j less q mine theirs
          (sym (still_there seen e j (omega (arith, less, inside))) ∙ held) has;
      key = clash.key;
      mine = clash.mine;
      theirs = clash.theirs;
      held = still_there seen e place inside ∙ clash.held;
      other_has = clash.other_has;
      differ = clash.differ;
      stamp_there = clash.stamp_there;
    }

-- ---- cells of one key

-- cells with other stamps agree
pub apart_agrees : (c d : Cell) → (r : Ordering) → stamp_cmp c.stamp d.stamp ≡ r → r ≢ Equal
    → AgreeCells c d
apart_agrees c d Less is apart = λ same.
    absurd (not_less_self c.stamp (ap (stamp_cmp c.stamp) same ∙ is))
apart_agrees c d Equal is apart = absurd (apart refl)
apart_agrees c d Greater is apart = λ same.
    absurd (not_less_self c.stamp
    (stamp_cmp_total.antisymm c.stamp c.stamp
    ∙ ap ordering_reverse (ap (stamp_cmp c.stamp) same ∙ is)))

-- the cell with the greater stamp is what they are joined to
pub joined_later : (c d : Cell) → stamp_cmp c.stamp d.stamp ≡ Less → joined_cells c d ≡ d
joined_later c d is = ap (λ r. cond (is_lt r) d c) is

-- else it is the first
pub joined_first : (c d : Cell) (r : Ordering) → stamp_cmp c.stamp d.stamp ≡ r → r ≢ Less
    → joined_cells c d ≡ c
joined_first c d Less is other = absurd (other refl)
joined_first c d Equal is other = ap (λ r. cond (is_lt r) d c) is
joined_first c d Greater is other = ap (λ r. cond (is_lt r) d c) is

-- ---- the state of what sees the cells

-- a clash that is known stays
pub known_stays : (clash : Option (ℕ × Stamp)) (left : Entries) (draft : RowsDraft)
    (others seen : Entries) (e : Entry) → is_some clash ≡ true
    → IsJoinedTo clash left draft others seen
    → IsJoinedTo clash left draft others (seen ++ e ∷ [])
known_stays None left draft others seen e known so_far = absurd (true≢false (sym known))
known_stays (Some clash) left draft others seen e known so_far =
    clash_stays seen others e clash.0 clash.1 so_far

-- without a clash the rows are those of both
pub none_known : (clash : Option (ℕ × Stamp)) (left : Entries) (draft : RowsDraft)
    (others seen : Entries) → is_some clash ≡ false
    → IsJoinedTo clash left draft others seen
    → (rows : Entries) × IsJoining left others seen rows × HoldsRows draft rows
none_known None left draft others seen none so_far = so_far
none_known (Some clash) left draft others seen none so_far = absurd (true≢false none)
