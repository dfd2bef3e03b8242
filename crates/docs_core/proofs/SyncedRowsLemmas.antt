-- The rows of a site that are joined with those of another document as both are read.
--
-- The own site is seen row by row, and before each row the other document is read as far as lesser
-- keys go. JoinedRowsLemmas says what the join of what was seen is; here it is tied to the state of
-- the reader and to the draft: which rows are written, which row was read last, and what is left.
-- Once both are at their ends the draft has the rows of the join.
--
-- Own edits that are looked for: a row that one site alone has was not made by the other, and of
-- two cells of a key the later one was not. So neither site lacks an edit of its own among the rows
-- that are joined; what is seen or read later takes nothing away from that.
use Rattle.std.proofs.Common.{◌≡◌, ◌≢◌, ◌∙◌, ◌++◌, [], ◌∷◌, ℕ, List, Option, Some, None, append-nil}
use Rattle.std.proofs.Common.{ap, cond, false, refl, subst, sym, true, true≢false}
use Rattle.std.proofs.lemmas.List.Elements.{All-append, All-cons, All-nil, All-push}
use Rattle.std.specs.Prelude.{All, IfSome, MatchOption, ⊤}
use Rattle.std.specs.FinMap.Entries.{find}
use Rattle.std.specs.Ordering.{eq_by_cmp, is_eq, is_lt}
use Rattle.std.specs.declared.cmp.Ordering.{Ordering}
use Rattle.std.specs.declared.cmp.Ordering.TheVariants.{Equal, Greater, Less}
use Rattle.cell_core.specs.Cell.{AgreeCells, joined_cells}
use Rattle.cell_core.specs.inner.Cell.{stamp_cmp_exact}
use Rattle.cell_core.specs.declared.cell.Cell.{Cell}
use Rattle.cell_core.specs.declared.stamp.Stamp.{Stamp}
use Rattle.cell_core.specs.Stamp.{stamp_cmp}
use Rattle.catalogue.proofs.EditStampOrderLemmas.{not_less_back, not_less_self}
use Rattle.cell_core.specs.Entry.{EntryKey, key_cmp}
use Rattle.catalogue.specs.Entries.{Agree, Entries, Entry, IsAboveAll, joined}
use Rattle.cell_core.specs.Keyed.{IsMap}
use Rattle.catalogue.proofs.CatalogueAboveLemmas.{front_below}
use Rattle.cata_core.specs.Delta.{HasAtLeast}
use Rattle.cata_core.specs.OwnEdits.{IsLackedEdit, LacksNoEdit}
use Rattle.site_docs.specs.RowsDraft.{HoldsRows}
use Rattle.site_docs.specs.WrittenRows.{HasRead, current_of}
use Rattle.site_docs.specs.declared.plain.written_rows.WrittenRows.{WrittenRows}
use Rattle.site_docs.specs.declared.rows_draft.RowsDraft.{RowsDraft}
use Rattle.docs_core.specs.inner.JoinedRows.{IsFirstGreater, IsJoiningAll, IsJoiningAs}
use Rattle.docs_core.specs.inner.JoinedRows.{IsJoiningBefore}
use Rattle.docs_core.specs.inner.SyncedRows.{AreNames, AreOwnTests, AreTested, IsKept, IsOfAnother}
use Rattle.docs_core.specs.inner.SyncedRows.{IsSynced, IsSyncedAll}
use Rattle.cata_core.specs.Site.{SiteState}
use Rattle.site_docs.specs.Checks.{LackNoOwn}
use Rattle.site_docs.specs.declared.checks.OwnEdits.{OwnEdits}
use Rattle.site_docs.specs.declared.checks.OwnEdits.TheVariants.{Checked, Unchecked}
use Rattle.docs_core.specs.inner.SyncedRows.{IsSyncedBefore, IsSyncedTo, LackNone, LackNoneAt}
use Rattle.docs_core.specs.inner.SyncedRows.{LacksNone, order_to}
use Rattle.docs_core.specs.declared.call.synced_rows.Tests.{Tests}
use Rattle.site_docs.specs.RowsInTime.{AreInTime, IsInTime}
use Rattle.docs_core.proofs.JoinedRowsLemmas.{find_last, joining_agrees, joining_ends}
use Rattle.docs_core.proofs.JoinedRowsLemmas.{joining_equal, joining_next, joining_own}

-- ---- orders

-- neither less nor equal
pub greater_left : (r : Ordering) → r ≢ Less → is_eq r ≡ false → r ≡ Greater
greater_left Less other apart = absurd (other refl)
greater_left Equal other apart = absurd (true≢false apart)
greater_left Greater other apart = refl

-- the first is greater, or there is none
pub first_greater : (key : EntryKey) (es : Entries) → order_to key es ≡ Greater
    → IsFirstGreater key es
first_greater key [] is = tt
first_greater key (e ∷ es) is = is

-- ---- a site's own edits

-- what is there stays, whatever comes after it
least_more : (k : EntryKey) (s : Stamp) (cells more : Entries) → HasAtLeast (find key_cmp k cells) s
    → HasAtLeast (find key_cmp k (cells ++ more)) s
least_more k s [] more has = absurd has
least_more k s (e ∷ es) more has =
    elim (eq_by_cmp key_cmp k e.0) as
    (λ t. HasAtLeast (cond t (Some e.1) (find key_cmp k es)) s
    → HasAtLeast (cond t (Some e.1) (find key_cmp k (es ++ more))) s) [
      | true ↦ λ held. held
      | false ↦ λ held. least_more k s es more held
    ] has

-- a site with more cells lacks no more
lacks_more : (name : Option (List ℕ)) (cells more rows : Entries) → LacksNone name cells rows
    → LacksNone name (cells ++ more) rows
lacks_more None cells more rows none = tt
lacks_more (Some name) cells more rows none = λ i x inside lacked.
    none i x inside (record {
      own = lacked.own;
      lacked = λ has. lacked.lacked (least_more _ _ cells more has);
    })

-- one row more was made by another site
lacks_other : (name : Option (List ℕ)) (cells rows : Entries) (e : Entry)
    → IsOfAnother name e.1.stamp.site → LacksNone name cells rows
    → LacksNone name cells (rows ++ e ∷ [])
lacks_other None cells rows e other none = tt
lacks_other (Some name) cells rows e other none =
    All-push (λ (d : Entry). ¬ (IsLackedEdit name cells d)) rows e none
    (λ lacked. other lacked.own)

-- of one row more the site has a cell at the key that is no earlier, where it made the row
lacks_kept : (name : Option (List ℕ)) (cells rows : Entries) (k : EntryKey) (own other : Cell)
    → find key_cmp k cells ≡ Some own → IsKept name own other → LacksNone name cells rows
    → LacksNone name cells (rows ++ (k, other) ∷ [])
lacks_kept None cells rows k own other at kept none = tt
lacks_kept (Some name) cells rows k own other at kept none =
    All-push (λ (d : Entry). ¬ (IsLackedEdit name cells d)) rows (k, other) none
    (λ lacked. lacked.lacked
    (subst (λ (o : Option Cell). HasAtLeast o other.stamp) (sym at) (kept lacked.own)))

-- the other's cell is later, and the site that is seen did not make it
pub later_lacks : (tests : Tests) (c d : Cell) → stamp_cmp c.stamp d.stamp ≡ Less
    → IsOfAnother tests.first d.stamp.site → LackNoneAt tests c d
later_lacks tests c d less other =
    (mine tests.first other, theirs tests.second)
  where
    mine : (name : Option (List ℕ)) → IsOfAnother name d.stamp.site → IsKept name c d
    mine None other = tt
    mine (Some name) other = λ made. absurd (other made)

    theirs : (name : Option (List ℕ)) → IsKept name d c
    theirs None = tt
    theirs (Some name) = λ made. not_less_back c.stamp d.stamp less

-- the cell that is seen is no earlier, and if it is later the other site did not make it
pub kept_lacks : (tests : Tests) (c d : Cell) (r : Ordering) → stamp_cmp c.stamp d.stamp ≡ r
    → r ≢ Less → (r ≡ Greater → IsOfAnother tests.second c.stamp.site) → LackNoneAt tests c d
kept_lacks tests c d r is later other = (mine tests.first, theirs tests.second r is later other)
  where
    mine : (name : Option (List ℕ)) → IsKept name c d
    mine None = tt
    mine (Some name) = λ made less. later (sym is ∙ less)

    theirs : (name : Option (List ℕ)) (r : Ordering) → stamp_cmp c.stamp d.stamp ≡ r → r ≢ Less
        → (r ≡ Greater → IsOfAnother name c.stamp.site) → IsKept name d c
    theirs None r is later other = tt
    theirs (Some name) Less is later other = absurd (later refl)
    theirs (Some name) Equal is later other = λ made.
        subst (λ (s : Stamp). stamp_cmp d.stamp s ≢ Less)
        (sym (stamp_cmp_exact c.stamp d.stamp is)) (not_less_self d.stamp)
    theirs (Some name) Greater is later other = λ made. absurd (other refl made)

-- no row is seen yet
tested_none : (tests : Tests) (last : Entries) → AreTested tests last last []
tested_none tests last = record {
  taken = [];
  all = refl;
  lack = (none tests.first, none tests.second);
}
  where
    none : (name : Option (List ℕ)) → LacksNone name [] []
    none None = tt
    none (Some name) = All-nil (λ (d : Entry). ¬ (IsLackedEdit name [] d))

-- the row that was read last is in no row of the site that is seen
tested_row : (tests : Tests) (last read next seen : Entries) (d : Entry) → last ≡ d ∷ []
    → IsOfAnother tests.first d.1.stamp.site → AreTested tests last read seen
    → AreTested tests next (read ++ next) seen
tested_row tests last read next seen d is other tested =
    let all : read ≡ tested.taken ++ d ∷ [] =
    tested.all ∙ ap (λ (es : Entries). tested.taken ++ es) is in record {
      taken = read;
      all = refl;
      lack = subst (LackNone tests seen) (sym all) (
        lacks_other tests.first seen tested.taken d other tested.lack.0,
        lacks_more tests.second tested.taken (d ∷ []) seen tested.lack.1,
      );
    }

-- the cell that is seen is in no row of the other document
tested_own : (tests : Tests) (last read seen : Entries) (e : Entry)
    → IsOfAnother tests.second e.1.stamp.site → AreTested tests last read seen
    → AreTested tests last read (seen ++ e ∷ [])
tested_own tests last read seen e other tested = record {
  taken = tested.taken;
  all = tested.all;
  lack = (
    lacks_more tests.first seen (e ∷ []) tested.taken tested.lack.0,
    lacks_other tests.second tested.taken seen e other tested.lack.1,
  );
}

-- both have a cell at the key
tested_both : (tests : Tests) (last read next seen : Entries) (k : EntryKey) (c d : Cell)
    → last ≡ (k, d) ∷ [] → IsMap key_cmp read → IsAboveAll k seen → LackNoneAt tests c d
    → AreTested tests last read seen → AreTested tests next (read ++ next) (seen ++ (k, c) ∷ [])
tested_both tests last read next seen k c d is map above kept tested =
    let taken = tested.taken in
    let all : read ≡ taken ++ (k, d) ∷ [] =
    tested.all ∙ ap (λ (es : Entries). taken ++ es) is in
    let theirs = find_last taken k d (front_below taken [] k d (subst (IsMap key_cmp) all map)) in
    let mine = find_last seen k c above in record {
      taken = read;
      all = refl;
      lack = subst (LackNone tests (seen ++ (k, c) ∷ [])) (sym all) (
        lacks_kept tests.first (seen ++ (k, c) ∷ []) taken k c d mine kept.0
            (lacks_more tests.first seen ((k, c) ∷ []) taken tested.lack.0),
        lacks_kept tests.second (taken ++ (k, d) ∷ []) seen k d c theirs kept.1
            (lacks_more tests.second taken ((k, d) ∷ []) seen tested.lack.1),
      );
    }

-- no row is left
tested_whole : (tests : Tests) (last read seen : Entries) → last ≡ []
    → AreTested tests last read seen → LackNone tests seen read
tested_whole tests last read seen none tested =
    subst (LackNone tests seen)
    (sym (tested.all ∙ ap (λ (es : Entries). tested.taken ++ es) none ∙ append-nil tested.taken))
    tested.lack

-- the names that are tested are those of the sites, so neither lacks an edit of its own
pub lack_own : (own : OwnEdits) (tests : Tests) (first second : SiteState) → AreOwnTests own tests
    → AreNames tests first.name second.name → LackNone tests first.cells second.cells
    → LackNoOwn own first second
lack_own Unchecked tests first second asked named lack = (tt, tt)
lack_own Checked tests first second (a, b, is, other_is) named lack = (
  of tests.second b second.name second.cells first.cells other_is named.1 lack.1,
  of tests.first a first.name first.cells second.cells is named.0 lack.0,
)
  where
    of : (tested : Option (List ℕ)) (found name : List ℕ) (cells rows : Entries)
        → tested ≡ Some found → MatchOption tested ⊤ (λ tested. tested ≡ name)
        → LacksNone tested cells rows → LacksNoEdit name cells rows
    of None found name cells rows is named none = absurd (cc)
    of (Some tested) found name cells rows is named none =
        subst (λ (n : List ℕ). LacksNoEdit n cells rows) named none

-- ---- what is read

in_time_more : (limit : Option ℕ) (cells next : Entries) → AreInTime limit cells
    → AreInTime limit next → AreInTime limit (cells ++ next)
in_time_more None cells next before after = tt
in_time_more (Some limit) cells next before after =
    All-append (IsInTime limit) cells next before after

none_seen : (es : Entries) → All (λ (d : Entry). IsAboveAll {J = Cell} d.0 []) es
none_seen [] = All-nil (λ (d : Entry). IsAboveAll {J = Cell} d.0 [])
none_seen (e ∷ es) =
    All-cons (λ (d : Entry). IsAboveAll {J = Cell} d.0 []) e es
    (All-nil (λ (x : Entry). key_cmp x.0 e.0 ≡ Less)) (none_seen es)

-- no row is seen yet
pub synced_none : (tests : Tests) (bytes : List ℕ) (rows : WrittenRows) (draft : RowsDraft)
    → HasRead bytes rows (current_of rows) → AreInTime tests.not_after (current_of rows)
    → HoldsRows draft [] → IsSyncedTo tests bytes rows draft []
synced_none tests bytes rows draft has in_time holds = record {
  read = current_of rows;
  both = [];
  has_read = has;
  in_time = in_time;
  tested = tested_none tests (current_of rows);
  joins = record {
    taken = [];
    all = refl;
    map = has.kept.map;
    joined = record {
      agree = record { first = tt; second = tt; at = λ q. tt };
      are = refl;
    };
    below = λ key above. All-nil (λ (x : Entry). key_cmp x.0 key ≡ Less);
    above = none_seen (current_of rows);
  };
  holds = holds;
}

-- a key is seen next
pub synced_before : (key : EntryKey) (tests : Tests) (bytes : List ℕ) (rows : WrittenRows)
    (draft : RowsDraft) (seen : Entries) → IsAboveAll key seen
    → IsSyncedTo tests bytes rows draft seen → IsSyncedBefore key tests bytes rows draft seen
synced_before key tests bytes rows draft seen above so_far = record {
  read = so_far.read;
  both = so_far.both;
  has_read = so_far.has_read;
  in_time = so_far.in_time;
  tested = so_far.tested;
  joins = record {
    taken = so_far.joins.taken;
    all = so_far.joins.all;
    map = so_far.joins.map;
    joined = so_far.joins.joined;
    below = so_far.joins.below key above;
    above = so_far.joins.above;
  };
  holds = so_far.holds;
}

-- no key is seen any more
pub synced_all : (tests : Tests) (bytes : List ℕ) (rows : WrittenRows) (draft : RowsDraft)
    (seen : Entries) → IsSyncedTo tests bytes rows draft seen
    → IsSyncedAll tests bytes rows draft seen
synced_all tests bytes rows draft seen so_far = record {
  read = so_far.read;
  both = so_far.both;
  has_read = so_far.has_read;
  in_time = so_far.in_time;
  tested = so_far.tested;
  joins = record {
    taken = so_far.joins.taken;
    all = so_far.joins.all;
    map = so_far.joins.map;
    joined = so_far.joins.joined;
    below = tt;
    above = so_far.joins.above;
  };
  holds = so_far.holds;
}

-- the row that was read last is written, and the next one is read
pub row_written : {Below After : Entries → Type 0} (d : Entry) (tests : Tests) (bytes : List ℕ)
    (old new : WrittenRows) (before after : RowsDraft) (seen : Entries)
    → current_of old ≡ d ∷ [] → IsOfAnother tests.first d.1.stamp.site
    → IsSynced (IsJoiningAs Below) tests bytes old before seen
    → ((cells : Entries) → HasRead bytes old cells → HasRead bytes new (cells ++ current_of new))
    → AreInTime tests.not_after (current_of new)
    → ((rows : Entries) → HoldsRows before rows → HoldsRows after (rows ++ d ∷ []))
    → ((taken : Entries) → Below taken → After (taken ++ d ∷ []))
    → IsSynced (IsJoiningAs After) tests bytes new after seen
row_written {Below} {After} d tests bytes old new before after seen is other so_far reads in_time
    holds below =
    let has = reads so_far.read so_far.has_read in record {
      read = so_far.read ++ current_of new;
      both = so_far.both ++ d ∷ [];
      has_read = has;
      in_time = in_time_more tests.not_after so_far.read (current_of new) so_far.in_time in_time;
      tested =
          tested_row tests (current_of old) so_far.read (current_of new) seen d is other
          so_far.tested;
      joins =
          joining_next {Below = Below} {After = After} d (current_of new) so_far.read seen
          so_far.both
          (subst (λ (left : Entries). IsJoiningAs Below left so_far.read seen so_far.both) is
          so_far.joins) has.kept.map below;
      holds = holds so_far.both so_far.holds;
    }

-- the other document has nothing at the key that is seen
pub own_written : (k : EntryKey) (c : Cell) (tests : Tests) (bytes : List ℕ)
    (rows : WrittenRows) (before after : RowsDraft) (seen : Entries)
    → order_to k (current_of rows) ≡ Greater → IsAboveAll k seen
    → IsOfAnother tests.second c.stamp.site → IsSyncedBefore k tests bytes rows before seen
    → ((rows : Entries) → HoldsRows before rows → HoldsRows after (rows ++ (k, c) ∷ []))
    → IsSyncedTo tests bytes rows after (seen ++ (k, c) ∷ [])
own_written k c tests bytes rows before after seen greater above other so_far holds = record {
  read = so_far.read;
  both = so_far.both ++ (k, c) ∷ [];
  has_read = so_far.has_read;
  in_time = so_far.in_time;
  tested = tested_own tests (current_of rows) so_far.read seen (k, c) other so_far.tested;
  joins =
      joining_own k c (current_of rows) so_far.read seen so_far.both so_far.joins
      (first_greater k (current_of rows) greater) above;
  holds = holds so_far.both so_far.holds;
}

-- it has a cell there that agrees
pub both_written : (k : EntryKey) (c d : Cell) (tests : Tests) (bytes : List ℕ)
    (old new : WrittenRows) (before after : RowsDraft) (seen : Entries)
    → current_of old ≡ (k, d) ∷ [] → IsAboveAll k seen
    → IsSyncedBefore k tests bytes old before seen
    → ((cells : Entries) → HasRead bytes old cells → HasRead bytes new (cells ++ current_of new))
    → AreInTime tests.not_after (current_of new) → AgreeCells c d → LackNoneAt tests c d
    → ((rows : Entries) → HoldsRows before rows
    → HoldsRows after (rows ++ (k, joined_cells c d) ∷ []))
    → IsSyncedTo tests bytes new after (seen ++ (k, c) ∷ [])
both_written k c d tests bytes old new before after seen is above so_far reads in_time agree kept
    holds =
    let has = reads so_far.read so_far.has_read in record {
      read = so_far.read ++ current_of new;
      both = so_far.both ++ (k, joined_cells c d) ∷ [];
      has_read = has;
      in_time = in_time_more tests.not_after so_far.read (current_of new) so_far.in_time in_time;
      tested =
          tested_both tests (current_of old) so_far.read (current_of new) seen k c d is
          so_far.has_read.kept.map above kept so_far.tested;
      joins =
          joining_equal k c d (current_of new) so_far.read seen so_far.both
          (subst (λ (left : Entries). IsJoiningBefore k left so_far.read seen so_far.both) is
          so_far.joins) has.kept.map above agree;
      holds = holds so_far.both so_far.holds;
    }

-- the draft has the rows of all cells of both, which agree
pub record IsJoinedWhole (tests : Tests) (bytes : List ℕ) (rows : WrittenRows)
    (draft : RowsDraft) (seen : Entries) : Type 0 where
  pub read : Entries
  pub has_read : HasRead bytes rows read
  pub in_time : AreInTime tests.not_after read
  pub lack : LackNone tests seen read
  pub agree : Agree seen read
  pub map : IsMap key_cmp (joined seen read)
  pub holds : HoldsRows draft (joined seen read)

-- all rows are written, and none is left: these are the cells of both
pub synced_whole : (tests : Tests) (bytes : List ℕ) (rows : WrittenRows) (draft : RowsDraft)
    (seen : Entries) → IsSyncedAll tests bytes rows draft seen → current_of rows ≡ []
    → IsJoinedWhole tests bytes rows draft seen
synced_whole tests bytes rows draft seen so_far none =
    let joins = subst (λ (left : Entries). IsJoiningAll left so_far.read seen so_far.both) none
    so_far.joins in
    let ends = joining_ends [] so_far.read seen so_far.both joins in record {
      read = so_far.read;
      has_read = so_far.has_read;
      in_time = so_far.in_time;
      lack = tested_whole tests (current_of rows) so_far.read seen none so_far.tested;
      agree = joining_agrees [] so_far.read seen so_far.both joins;
      map = ends.1;
      holds = subst (HoldsRows draft) (sym (append-nil so_far.both) ∙ ends.0) so_far.holds;
    }

-- what follows from two clauses on what is there
pub some_both : {X : Type 0} (r : Option X) {P Q R : X → Type 0} → IfSome r P → IfSome r Q
    → ((x : X) → P x → Q x → R x) → IfSome r R
some_both None p q then = tt
some_both (Some x) p q then = then x p q

-- not less, where it is tested so
pub not_less : (r : Ordering) → is_lt r ≡ false → r ≢ Less
not_less Less is = absurd (true≢false is)
not_less Equal is = λ h. cc
not_less Greater is = λ h. cc
