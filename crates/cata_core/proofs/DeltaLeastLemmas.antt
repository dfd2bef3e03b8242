-- Deltas are least.
use Rattle.std.proofs.Common.{◌≡◌, Bool, true, false, cond, [], Option, Some, None, refl, sym, ap}
use Rattle.std.proofs.Common.{◌∙◌, true≢false}
use Rattle.std.specs.Prelude.{◌↔◌}
use Rattle.std.specs.Ordering.{is_lt}
use Rattle.std.specs.FinMap.Entries.{find}
use Rattle.cell_core.specs.declared.cell.Cell.{Cell}
use Rattle.cell_core.specs.Stamp.{stamp_cmp}
use Rattle.cell_core.specs.Cell.{joined_cells}
use Rattle.cell_core.specs.inner.Cell.{cell_laws}
use Rattle.cell_core.specs.Keyed.{IsMap, joined_if_both}
use Rattle.cell_core.specs.inner.KeyedLaws.{joined_maps-IsMap, find-joined_maps, same_maps}
use Rattle.cell_core.specs.inner.KeyedLaws.{also_map}
use Rattle.cell_core.specs.Entry.{EntryKey, key_cmp}
use Rattle.cell_core.specs.inner.Entry.{key_cmp_total, key_cmp_exact}
use Rattle.catalogue.specs.Entries.{Entry, Entries, Agree, joined, IsBelowCells}
use Rattle.catalogue.specs.inner.Entries.{catalogue_laws}
use Rattle.cata_core.specs.Delta.{summary_of, is_missing, delta_of, IsPart}
use Rattle.catalogue.proofs.CatalogueJoinedLatestLemmas.{first_alone}
use Rattle.catalogue.proofs.EditStampOrderLemmas.{lt_self}
use Rattle.catalogue.proofs.EntriesFilteredLemmas.{kept_if, filter-IsMap, find-filter}
use Rattle.cata_core.proofs.DeltaLemmas.{nothing_lost}
use Rattle.cata_core.proofs.SummaryLemmas.{stamp_if, find-summary_of, has_own}

module _ (own sender : Entries) (m : IsMap key_cmp own) (agree : Agree own sender) where
  n : IsMap key_cmp sender
  n = also_map key_cmp key_cmp_total key_cmp_exact cell_laws own sender agree m

  abbrev missing : Entry → Bool
  missing = λ e. is_missing (find key_cmp e.0 (summary_of own)) e.1.stamp

  delta-IsMap : IsMap key_cmp (delta_of sender (summary_of own))
  delta-IsMap = filter-IsMap key_cmp missing sender n

  find-delta : (k : EntryKey)
      → find key_cmp k (delta_of sender (summary_of own))
      ≡ kept_if (λ c. is_missing (stamp_if (find key_cmp k own)) c.stamp) (find key_cmp k sender)
  find-delta k =
      find-filter key_cmp missing key_cmp_total key_cmp_exact k sender n
      ∙ ap (λ o. kept_if (λ c. is_missing o c.stamp) (find key_cmp k sender))
      (find-summary_of k own)

  -- a cell of the delta is the sender's, and missing
  record IsMissing (a : Option Cell) (b : Option Cell) (c : Cell) : Type 0 where
    theirs : b ≡ Some c
    new : is_missing (stamp_if a) c.stamp ≡ true

  missing_of : (a b : Option Cell) (c : Cell)
      → kept_if (λ d. is_missing (stamp_if a) d.stamp) b ≡ Some c → IsMissing a b c
  missing_of a None c h = absurd (cc)
  missing_of a (Some d) c h =
      elim (is_missing (stamp_if a) d.stamp) as
      (λ t. is_missing (stamp_if a) d.stamp ≡ t → cond t (Some d) None ≡ Some c
      → IsMissing a (Some d) c) [
        | true ↦ λ t e. let same : d ≡ c = cc in
            record { theirs = e; new = ap (λ x. is_missing (stamp_if a) x.stamp) (sym same) ∙ t }
        | false ↦ λ t e. absurd (cc)
      ] refl h

  -- what is missing wins
  wins : (a : Option Cell) (c : Cell) → is_missing (stamp_if a) c.stamp ≡ true
      → joined_if_both joined_cells a (Some c) ≡ Some c
  wins None c h = refl
  wins (Some d) c h = ap (λ t. Some (cond t c d)) h

  not_own : (a : Option Cell) (c : Cell) → is_missing (stamp_if a) c.stamp ≡ true → a ≡ Some c → ⊥
  not_own None c h e = cc
  not_own (Some d) c h e = let same : d ≡ c = cc in
      true≢false (sym h ∙ ap (λ x. is_lt (stamp_cmp x.stamp c.stamp)) same ∙ lt_self c.stamp)

  -- a part that joins to the same has each cell of the delta
  pub delta_least : (part : Entries) → IsPart part sender → joined own part ≡ joined own sender
      → IsPart (delta_of sender (summary_of own)) part
  delta_least part p same = record {
    map = delta-IsMap;
    of = λ k c h.
        let is =
        missing_of (find key_cmp k own) (find key_cmp k sender) c (sym (find-delta k) ∙ h) in
        let joins : joined_if_both joined_cells (find key_cmp k own) (find key_cmp k part)
        ≡ Some c =
        sym (find-joined_maps key_cmp key_cmp_total joined_cells own part m p.map k)
        ∙ ap (find key_cmp k) same
        ∙ find-joined_maps key_cmp key_cmp_total joined_cells own sender m n k
        ∙ ap (joined_if_both joined_cells (find key_cmp k own)) is.theirs
        ∙ wins (find key_cmp k own) c is.new in
        at k c is (find key_cmp k part) refl joins;
  }
    where
      at : (k : EntryKey) (c : Cell) → IsMissing (find key_cmp k own) (find key_cmp k sender) c
          → (o : Option Cell) → find key_cmp k part ≡ o
          → joined_if_both joined_cells (find key_cmp k own) o ≡ Some c
          → find key_cmp k part ≡ Some c
      at k c is None e j =
          absurd
          (not_own (find key_cmp k own) c is.new (sym (first_alone (find key_cmp k own)) ∙ j))
      at k c is (Some d) e j = let same : Some d ≡ Some c = sym (p.of k d e) ∙ is.theirs in e ∙ same

  -- a delta is empty just where the receiver is above the sender
  pub delta_empty : (delta_of sender (summary_of own) ≡ []) ↔ IsBelowCells sender own
  delta_empty = (
    λ none. (
      catalogue_laws.agree_symm own sender agree,
      catalogue_laws.comm sender own (catalogue_laws.agree_symm own sender agree)
          ∙ sym (nothing_lost own sender (summary_of own) agree (has_own own))
          ∙ ap (joined own) none ∙ joined_none,
    ),
    λ below.
        same_maps key_cmp key_cmp_total key_cmp_exact (delta_of sender (summary_of own)) []
        delta-IsMap tt
        (λ k. gone k (find key_cmp k (delta_of sender (summary_of own))) refl below.1),
  )
    where
      joined_none : joined own [] ≡ own
      joined_none =
          same_maps key_cmp key_cmp_total key_cmp_exact (joined own []) own
          (joined_maps-IsMap key_cmp key_cmp_total joined_cells own [] m tt) m
          (λ k. find-joined_maps key_cmp key_cmp_total joined_cells own [] m tt k
          ∙ first_alone (find key_cmp k own))

      gone : (k : EntryKey) (o : Option Cell)
          → find key_cmp k (delta_of sender (summary_of own)) ≡ o → joined sender own ≡ own
          → o ≡ None
      gone k None e below = refl
      gone k (Some c) e below =
          let is =
          missing_of (find key_cmp k own) (find key_cmp k sender) c (sym (find-delta k) ∙ e) in
          let own_is : find key_cmp k own ≡ Some c =
          ap (find key_cmp k)
          (sym below
          ∙ catalogue_laws.comm sender own (catalogue_laws.agree_symm own sender agree))
          ∙ find-joined_maps key_cmp key_cmp_total joined_cells own sender m n k
          ∙ ap (joined_if_both joined_cells (find key_cmp k own)) is.theirs
          ∙ wins (find key_cmp k own) c is.new in
          absurd (not_own (find key_cmp k own) c is.new own_is)
