-- What is left out of a delta changes nothing: it joins, agrees and clashes as all of it would.
--
-- First of any part of a sender's cells: if each cell that is left out joins to nothing new, the
-- part joins to what all would; if each agrees, the part agrees and clashes as all do, at the same
-- first key. Then of a delta: a cell is left out only if the summary shows its key with a later
-- stamp, which agrees and wins, or with its own stamp and digest. In the latter case the premise
-- that digests tell labels apart makes the two cells one.
use Rattle.std.proofs.Common.{◌≡◌, ◌∙◌, ◌∷◌, ℕ, Bool, true, false, cond, List, []}
use Rattle.std.proofs.Common.{Option, None, Some, ap, inr, refl, subst, sym, true≢false}
use Rattle.std.specs.Prelude.{◌↔◌, filter, not, slice_get}
use Rattle.std.specs.Option.{option_map}
use Rattle.std.specs.declared.cmp.Ordering.{Ordering}
use Rattle.std.specs.declared.cmp.Ordering.TheVariants.{Equal, Greater, Less}
use Rattle.std.specs.Ordering.{is_lt, match_ordering}
use Rattle.std.specs.Str.{bytes_eq}
use Rattle.std.specs.FinMap.Entries.{find}
use Rattle.std.proofs.lemmas.Cmp.{tied_itself}
use Rattle.std.proofs.lemmas.Slice.Eq.{bytes_eq-Decides}
use Rattle.lang_core.proofs.Basics.{not_false}
use Rattle.cell_core.specs.declared.cell.Cell.{Cell}
use Rattle.cell_core.specs.declared.stamp.Stamp.{Stamp}
use Rattle.cell_core.specs.Stamp.{stamp_cmp}
use Rattle.cell_core.specs.Cell.{AgreeCells, joined_cells}
use Rattle.cell_core.specs.inner.Cell.{cell_laws, stamp_cmp_exact, stamp_cmp_total}
use Rattle.cell_core.specs.Keyed.{AgreeIfBoth, IsMap, joined_if_both}
use Rattle.cell_core.specs.inner.KeyedLaws.{also_map, at_of, find-joined_maps, joined_maps-IsMap}
use Rattle.cell_core.specs.inner.KeyedLaws.{same_maps}
use Rattle.cell_core.specs.Entry.{EntryKey, key_cmp}
use Rattle.cell_core.specs.inner.Entry.{key_cmp_exact, key_cmp_total}
use Rattle.catalogue.specs.CataFault.{IsRefusal}
use Rattle.catalogue.specs.Clash.{IsFirstClash}
use Rattle.catalogue.specs.Entries.{Agree, Entries, Entry, joined}
use Rattle.catalogue.specs.declared.cata_fault.CataFault.{CataFault}
use Rattle.catalogue.specs.declared.cata_fault.CataFault.TheVariants as cata
use Rattle.catalogue.proofs.Basics.{not_lt}
use Rattle.catalogue.proofs.ClashLemmas.{found_at}
use Rattle.catalogue.proofs.EditStampOrderLemmas.{not_lt_trans}
use Rattle.catalogue.proofs.EntriesFilteredLemmas.{filter-IsMap, find-filter, kept_if}
use Rattle.cata_core.specs.Delta.{HasAll, HasAtLeast, Stamps, delta_of, is_missing, summary_of}
use Rattle.cata_core.specs.Summary.{SummaryState}
use Rattle.cata_core.proofs.SummaryLemmas.{find-summary_of, has_own, stamp_if}
use Rattle.summary_docs.specs.Digest.{digest}
use Rattle.summary_docs.specs.Shown.{DigestsTell, KnownCell, ShownState, delta_for, is_lacked}
use Rattle.summary_docs.specs.Shown.{is_of_another, known_in, known_of, lacked_of, shown_of}
use Rattle.summary_docs.proofs.ShownLemmas.{find-alone, find-of_cells, known-stamp, known_cell}
use Rattle.summary_docs.proofs.ShownLemmas.{stamp_alone}

-- ---- a part of a sender's cells

-- what is kept was there
kept_was : {X : Type 0} (p : X → Bool) (o : Option X) (x : X) → kept_if p o ≡ Some x → o ≡ Some x
kept_was p None x is = absurd (cc)
kept_was p (Some y) x is =
    elim (p y) as (λ b. cond b (Some y) None ≡ Some x → Some y ≡ Some x)
    [ true ↦ λ same. same | false ↦ λ same. absurd (cc) ] is

agree_none : (a : Option Cell) → AgreeIfBoth AgreeCells a None
agree_none None = tt
agree_none (Some c) = tt

-- and what passes is kept
kept_passes : {X : Type 0} (p : X → Bool) (x : X) → p x ≡ true → kept_if p (Some x) ≡ Some x
kept_passes p x passes = ap (λ b. cond b (Some x) None) passes

module _ (own sender : Entries) (p : Entry → Bool) (m : IsMap key_cmp own)
    (n : IsMap key_cmp sender) where
  part-IsMap : IsMap key_cmp (filter p sender)
  part-IsMap = filter-IsMap key_cmp p sender n

  find-part : (q : EntryKey)
      → find key_cmp q (filter p sender) ≡ kept_if (λ c. p (q, c)) (find key_cmp q sender)
  find-part q = find-filter key_cmp p key_cmp_total key_cmp_exact q sender n

  -- where each cell that is left out joins to nothing new, the part joins to what all would
  pub part_joins : ((q : EntryKey) (c : Cell) → p (q, c) ≡ false
      → joined_if_both joined_cells (find key_cmp q own) None
      ≡ joined_if_both joined_cells (find key_cmp q own) (Some c))
      → joined own (filter p sender) ≡ joined own sender
  part_joins unsent =
      same_maps key_cmp key_cmp_total key_cmp_exact (joined own (filter p sender))
      (joined own sender)
      (joined_maps-IsMap key_cmp key_cmp_total joined_cells own (filter p sender) m part-IsMap)
      (joined_maps-IsMap key_cmp key_cmp_total joined_cells own sender m n)
      (λ q. find-joined_maps key_cmp key_cmp_total joined_cells own (filter p sender) m part-IsMap q
      ∙ ap (joined_if_both joined_cells (find key_cmp q own)) (find-part q)
      ∙ at q (find key_cmp q sender)
      ∙ sym (find-joined_maps key_cmp key_cmp_total joined_cells own sender m n q))
    where
      at : (q : EntryKey) (o : Option Cell)
          → joined_if_both joined_cells (find key_cmp q own) (kept_if (λ c. p (q, c)) o)
          ≡ joined_if_both joined_cells (find key_cmp q own) o
      at q None = refl
      at q (Some c) =
          elim (p (q, c)) as
          (λ b. p (q, c) ≡ b
          → joined_if_both joined_cells (find key_cmp q own) (cond b (Some c) None)
          ≡ joined_if_both joined_cells (find key_cmp q own) (Some c)) [
            | true ↦ λ b. refl
            | false ↦ λ b. unsent q c b
          ] refl

  -- where each cell that is left out agrees, the part agrees and clashes as all do
  module _ (quiet : (q : EntryKey) (c : Cell) → find key_cmp q sender ≡ Some c → p (q, c) ≡ false
      → AgreeIfBoth AgreeCells (find key_cmp q own) (Some c)) where
    -- what agrees with the part agrees with all
    pub all_agree : Agree own (filter p sender) → Agree own sender
    all_agree agree =
        inr (record { first = m; second = n; at = λ q. at q (find key_cmp q sender) refl })
      where
        at : (q : EntryKey) (o : Option Cell) → find key_cmp q sender ≡ o
            → AgreeIfBoth AgreeCells (find key_cmp q own) o
        at q None is = agree_none (find key_cmp q own)
        at q (Some c) is =
            elim (p (q, c)) as
            (λ b. p (q, c) ≡ b → AgreeIfBoth AgreeCells (find key_cmp q own) (Some c)) [
              | true ↦
                  λ b. subst (AgreeIfBoth AgreeCells (find key_cmp q own))
                  (find-part q ∙ ap (kept_if (λ d. p (q, d))) is
                  ∙ kept_passes (λ d. p (q, d)) c b)
                  (at_of key_cmp key_cmp_total key_cmp_exact cell_laws own (filter p sender) agree
                  q)
              | false ↦ λ b. quiet q c is b
            ] refl

    -- what agrees with all agrees with the part
    pub part_agrees : Agree own sender → Agree own (filter p sender)
    part_agrees agree =
        inr (record {
          first = m;
          second = part-IsMap;
          at = λ q. subst (AgreeIfBoth AgreeCells (find key_cmp q own)) (sym (find-part q))
              (at q (find key_cmp q own) (find key_cmp q sender)
              (at_of key_cmp key_cmp_total key_cmp_exact cell_laws own sender agree q));
        })
      where
        at : (q : EntryKey) (a o : Option Cell) → AgreeIfBoth AgreeCells a o
            → AgreeIfBoth AgreeCells a (kept_if (λ c. p (q, c)) o)
        at q None o h = tt
        at q (Some d) None h = tt
        at q (Some d) (Some c) h =
            elim (p (q, c)) as
            (λ b. AgreeIfBoth AgreeCells (Some d) (cond b (Some c) None)) [ true ↦ h | false ↦ tt ]

    -- a cell that is held agrees with one that is left out
    quiet_at : (place : ℕ) (k : EntryKey) (c d : Cell) → slice_get own place ≡ Some (k, c)
        → find key_cmp k sender ≡ Some d → p (k, d) ≡ false → AgreeCells c d
    quiet_at place k c d held theirs out =
        subst (λ o. AgreeIfBoth AgreeCells o (Some d)) (found_at own place k c m held)
        (quiet k d theirs out)

    part_has : (k : EntryKey) (d : Cell) → find key_cmp k sender ≡ Some d → p (k, d) ≡ true
        → find key_cmp k (filter p sender) ≡ Some d
    part_has k d theirs passes =
        find-part k ∙ ap (kept_if (λ c. p (k, c))) theirs ∙ kept_passes (λ c. p (k, c)) d passes

    all_has : (k : EntryKey) (d : Cell) → find key_cmp k (filter p sender) ≡ Some d
        → find key_cmp k sender ≡ Some d
    all_has k d is = kept_was (λ c. p (k, c)) (find key_cmp k sender) d (sym (find-part k) ∙ is)

    -- the first clash with the part is that with all
    pub all_clash : (place : ℕ) (stamp : Stamp)
        → IsFirstClash key_cmp own (filter p sender) place stamp
        → IsFirstClash key_cmp own sender place stamp
    all_clash place stamp clash = record {
      before = λ j less k c d held theirs.
          elim (p (k, d)) as (λ b. p (k, d) ≡ b → AgreeCells c d) [
            | true ↦ λ b. clash.before j less k c d held (part_has k d theirs b)
            | false ↦ λ b. quiet_at j k c d held theirs b
          ] refl;
      key = clash.key;
      mine = clash.mine;
      theirs = clash.theirs;
      held = clash.held;
      other_has = all_has clash.key clash.theirs clash.other_has;
      differ = clash.differ;
      stamp_there = clash.stamp_there;
    }

    -- and the first clash with all is that with the part
    pub part_clash : (place : ℕ) (stamp : Stamp) → IsFirstClash key_cmp own sender place stamp
        → IsFirstClash key_cmp own (filter p sender) place stamp
    part_clash place stamp clash = record {
      before = λ j less k c d held theirs. clash.before j less k c d held (all_has k d theirs);
      key = clash.key;
      mine = clash.mine;
      theirs = clash.theirs;
      held = clash.held;
      other_has = elim (p (clash.key, clash.theirs)) as
          (λ b. p (clash.key, clash.theirs) ≡ b
          → find key_cmp clash.key (filter p sender) ≡ Some clash.theirs) [
            | true ↦ λ b. part_has clash.key clash.theirs clash.other_has b
            | false ↦ λ b. absurd (clash.differ
                (quiet_at place clash.key clash.mine clash.theirs clash.held clash.other_has b))
          ] refl;
      differ = clash.differ;
      stamp_there = clash.stamp_there;
    }

-- ---- what a summary does not lack

newer_by : (o : Ordering) (another : Bool) → match_ordering o true another false ≡ false
    → is_lt o ≡ false
newer_by Less another h = absurd (true≢false h)
newer_by Equal another h = refl
newer_by Greater another h = refl

-- a cell that is not lacked is not newer than what is known
not_newer : (known : KnownCell) (c : Cell) → is_lacked (Some known) c ≡ false
    → is_lt (stamp_cmp known.stamp c.stamp) ≡ false
not_newer known c out =
    newer_by (stamp_cmp known.stamp c.stamp) (is_of_another known.digest c.label) out

unsent : (own : Option Cell) (known : Option KnownCell) (c : Cell)
    → ((k : KnownCell) → known ≡ Some k → HasAtLeast own k.stamp) → is_lacked known c ≡ false
    → joined_if_both joined_cells own None ≡ joined_if_both joined_cells own (Some c)
unsent own None c has out = absurd (true≢false out)
unsent None (Some k) c has out = absurd (has k refl)
unsent (Some d) (Some k) c has out =
    ap (λ t. Some (cond t c d))
    (sym (not_lt_trans d.stamp k.stamp c.stamp (not_lt (stamp_cmp d.stamp k.stamp) (has k refl))
    (not_newer k c out)))

-- who has a summary in full gets from the delta for it what the whole catalogue would give
pub shown_suffices : (own sender : Entries) (shown : ShownState) → IsMap key_cmp own
    → IsMap key_cmp sender → HasAll own shown.summary.stamps
    → joined own (delta_for sender shown) ≡ joined own sender
shown_suffices own sender shown m n has =
    part_joins own sender (λ e. is_lacked (find key_cmp e.0 (known_in shown)) e.1) m n
    (λ q c out. unsent (find key_cmp q own) (find key_cmp q (known_in shown)) c
    (λ k is. has q k.stamp
    (sym (known-stamp q shown.summary.stamps shown.digests)
    ∙ ap (option_map (λ (x : KnownCell). x.stamp)) is)) out)

-- ---- the delta for a summary that shows labels

module _ (own sender : Entries) (owner : List ℕ) (m : IsMap key_cmp own)
    (n : IsMap key_cmp sender) where
  abbrev lacked : Entry → Bool
  lacked = λ e. is_lacked (find key_cmp e.0 (known_in (shown_of owner own))) e.1

  -- it joins to what the whole would
  pub checked_joins : joined own (delta_for sender (shown_of owner own)) ≡ joined own sender
  checked_joins = shown_suffices own sender (shown_of owner own) m n (has_own own)

  module _ (told : DigestsTell own sender) where
    -- of one stamp and one digest
    same_label : (q : EntryKey) (mine theirs : Cell) → find key_cmp q own ≡ Some mine
        → find key_cmp q sender ≡ Some theirs → is_lacked (Some (known_cell mine)) theirs ≡ false
        → AgreeCells mine theirs
    same_label q mine theirs own_has sender_has out stamps =
        let level : stamp_cmp mine.stamp theirs.stamp ≡ Equal =
        ap (stamp_cmp mine.stamp) (sym stamps) ∙ tied_itself stamp_cmp_total mine.stamp in
        let shown : not (bytes_eq (digest mine.label) (digest theirs.label)) ≡ false =
        ap (λ o. match_ordering o true (not (bytes_eq (digest mine.label) (digest theirs.label)))
        false) (sym level) ∙ out in
        told q mine theirs own_has sender_has stamps
        ((bytes_eq-Decides (digest mine.label) (digest theirs.label)).0 (not_false _ shown))

    quiet : (q : EntryKey) (c : Cell) → find key_cmp q sender ≡ Some c → lacked (q, c) ≡ false
        → AgreeIfBoth AgreeCells (find key_cmp q own) (Some c)
    quiet q c theirs out =
        at (find key_cmp q own) refl
        (ap (λ o. is_lacked o c) (sym (find-of_cells q own)) ∙ out)
      where
        at : (a : Option Cell) → find key_cmp q own ≡ a
            → is_lacked (option_map known_cell a) c ≡ false → AgreeIfBoth AgreeCells a (Some c)
        at None is h = tt
        at (Some d) is h = same_label q d c is theirs h

    -- it agrees exactly where the whole does
    pub checked_agrees : Agree own (delta_for sender (shown_of owner own)) ↔ Agree own sender
    checked_agrees =
        (all_agree own sender lacked m n quiet, part_agrees own sender lacked m n quiet)

    -- and is refused as the whole is
    pub checked_refused : (fault : CataFault)
        → IsRefusal own (delta_for sender (shown_of owner own)) fault ↔ IsRefusal own sender fault
    checked_refused (cata.StampReused place stamp) = (
      all_clash own sender lacked m n quiet place stamp,
      part_clash own sender lacked m n quiet place stamp,
    )
    checked_refused cata.ClockSpent = ((λ h. h), (λ h. h))
    checked_refused (cata.NotForMe addressee) = ((λ h. h), (λ h. h))
    checked_refused cata.NoMemory = checked_agrees

-- ---- stamps alone

alone_by : (o : Ordering) → match_ordering o true false false ≡ is_lt o
alone_by Less = refl
alone_by Equal = refl
alone_by Greater = refl

-- a stamp alone lacks what is missing
alone_lacks : (known : Option Stamp) (c : Cell)
    → is_lacked (option_map stamp_alone known) c ≡ is_missing known c.stamp
alone_lacks None c = refl
alone_lacks (Some s) c = alone_by (stamp_cmp s c.stamp)

lacked_alone : (stamps : Stamps) (es : Entries)
    → lacked_of es (known_of stamps []) ≡ delta_of es stamps
lacked_alone stamps [] = refl
lacked_alone stamps (e ∷ es) =
    let rest = lacked_of es (known_of stamps []) in
    ap (λ b. cond b (e ∷ rest) rest)
    (ap (λ o. is_lacked o e.1) (find-alone e.0 stamps)
    ∙ alone_lacks (find key_cmp e.0 stamps) e.1)
    ∙ ap (λ t. cond (is_missing (find key_cmp e.0 stamps) e.1.stamp) (e ∷ t) t)
    (lacked_alone stamps es)

-- without digests a delta is that of the stamps alone
pub plain_delta : (cells : Entries) (summary : SummaryState)
    → delta_for cells (record { summary = summary; digests = [] }) ≡ delta_of cells summary.stamps
plain_delta cells summary = lacked_alone summary.stamps cells

-- ---- where cells agree

digests_by : (o : Ordering) (a b : List ℕ) → (o ≡ Equal → a ≡ b)
    → match_ordering o true (not (bytes_eq a b)) false ≡ is_lt o
digests_by Less a b same = refl
digests_by Equal a b same = ap not ((bytes_eq-Decides a b).1 (same refl))
digests_by Greater a b same = refl

agreeing : (a b : Option Cell) → AgreeIfBoth AgreeCells a b
    → kept_if (λ c. is_lacked (option_map known_cell a) c) b
    ≡ kept_if (λ c. is_missing (stamp_if a) c.stamp) b
agreeing a None h = refl
agreeing None (Some d) h = refl
agreeing (Some c) (Some d) h =
    ap (λ t. cond t (Some d) None)
    (digests_by (stamp_cmp c.stamp d.stamp) (digest c.label) (digest d.label)
    (λ level. ap digest (h (stamp_cmp_exact c.stamp d.stamp level))))

-- where cells agree, digests add nothing
pub agreeing_delta : (own sender : Entries) (owner : List ℕ) → IsMap key_cmp own → Agree own sender
    → delta_for sender (shown_of owner own) ≡ delta_of sender (summary_of own)
agreeing_delta own sender owner m agree =
    let n = also_map key_cmp key_cmp_total key_cmp_exact cell_laws own sender agree m in
    let checked = λ (e : Entry). is_lacked (find key_cmp e.0 (known_in (shown_of owner own))) e.1 in
    let plain = λ (e : Entry). is_missing (find key_cmp e.0 (summary_of own)) e.1.stamp in
    same_maps key_cmp key_cmp_total key_cmp_exact (filter checked sender) (filter plain sender)
    (filter-IsMap key_cmp checked sender n) (filter-IsMap key_cmp plain sender n)
    (λ q. find-filter key_cmp checked key_cmp_total key_cmp_exact q sender n
    ∙ ap (λ o. kept_if (λ c. is_lacked o c) (find key_cmp q sender)) (find-of_cells q own)
    ∙ agreeing (find key_cmp q own) (find key_cmp q sender)
    (at_of key_cmp key_cmp_total key_cmp_exact cell_laws own sender agree q)
    ∙ ap (λ o. kept_if (λ c. is_missing o c.stamp) (find key_cmp q sender))
    (sym (find-summary_of q own))
    ∙ sym (find-filter key_cmp plain key_cmp_total key_cmp_exact q sender n))
