-- Walks that gather the cells that a summary lacks.
use Rattle.std.proofs.Common.{◌≡◌, ◌≢◌, true, false, cond, [], ◌∷◌, ◌++◌, sym, ap, ◌∙◌, subst}
use Rattle.std.proofs.Common.{append_assoc}
use Rattle.std.specs.declared.cmp.Ordering.TheVariants.{Less, Greater}
use Rattle.std.specs.Ordering.{is_lt}
use Rattle.std.specs.FinMap.Entries.{find, is_sorted, below_all}
use Rattle.cell_core.specs.declared.cell.Cell.{Cell}
use Rattle.cell_core.specs.Keyed.{IsMap}
use Rattle.cell_core.specs.Entry.{EntryKey, key_cmp}
use Rattle.catalogue.specs.Entries.{Entries, IsAboveAll}
use Rattle.cata_core.specs.Delta.{Stamps, is_missing, delta_of}
use Rattle.cata_core.specs.inner.DeltaSeeking.{IsRestAfter}
use Rattle.catalogue.proofs.EntriesFilteredLemmas.{filter-IsMap}
use Rattle.catalogue.proofs.CatalogueAboveLemmas.{front_below}
use Rattle.cell_core.proofs.Basics.{first_part, second_part, less_than}
use Rattle.cata_core.proofs.SummaryListsLemmas.{less_from, not_greater}

-- the key is not smaller than the first
abbrev IsFromFirst : EntryKey → Entries → Type 0
IsFromFirst q [] = ⊥
IsFromFirst q (e ∷ es) = key_cmp e.0 q ≢ Greater

-- these are the missing cells so far, those cells are left, and from their first key on the rest
-- has what the summary has
pub record AreMissingSoFar (all left missing : Entries) (summary rest : Stamps) : Type 0 where
  pub cells : missing ++ delta_of left summary ≡ delta_of all summary
  pub map : IsMap key_cmp all
  pub sorted : IsMap key_cmp left
  pub rest_sorted : IsMap key_cmp rest
  pub same : (q : EntryKey) → IsFromFirst q left → find key_cmp q rest ≡ find key_cmp q summary

module _ (all left missing : Entries) (summary rest more : Stamps) (k : EntryKey) (c : Cell)
    (h : AreMissingSoFar all ((k, c) ∷ left) missing summary rest)
    (s : IsRestAfter k rest more) where
  later : (q : EntryKey) → IsFromFirst q left → key_cmp k q ≡ Less
  later q = elim left as (λ l. IsMap key_cmp ((k, c) ∷ l) → IsFromFirst q l → key_cmp k q ≡ Less) [
    | [] ↦ λ m f. absurd f
    | e ∷ es ↦ λ m f.
        let less : key_cmp k e.0 ≡ Less =
        less_than (key_cmp k e.0)
        (first_part (is_lt (key_cmp k e.0)) (below_all key_cmp k es)
        (first_part (below_all key_cmp k (e ∷ es)) (is_sorted key_cmp (e ∷ es)) m)) in
        less_from k e.0 q less f
  ] h.sorted

  rest_same : (q : EntryKey) → IsFromFirst q left → find key_cmp q more ≡ find key_cmp q summary
  rest_same q f = s.same q (later q f) ∙ h.same q (not_greater (later q f))

  left_sorted : IsMap key_cmp left
  left_sorted = second_part (below_all key_cmp k left) (is_sorted key_cmp left) h.sorted

  -- the cell is sent
  pub sent_above : is_missing (find key_cmp k summary) c.stamp ≡ true → IsAboveAll k missing
  sent_above sent =
      let cells : missing ++ (k, c) ∷ delta_of left summary ≡ delta_of all summary =
      ap (λ b. missing ++ cond b ((k, c) ∷ delta_of left summary) (delta_of left summary))
      (sym sent) ∙ h.cells in
      front_below missing (delta_of left summary) k c
      (subst (IsMap key_cmp) (sym cells)
      (filter-IsMap key_cmp (λ e. is_missing (find key_cmp e.0 summary) e.1.stamp) all h.map))

  -- a cell that the summary lacks is added after those found
  pub missing_more : is_missing (find key_cmp k summary) c.stamp ≡ true
      → AreMissingSoFar all left (missing ++ (k, c) ∷ []) summary more
  missing_more sent = record {
    cells =
        append_assoc missing ((k, c) ∷ []) (delta_of left summary)
        ∙ ap (λ b. missing ++ cond b ((k, c) ∷ delta_of left summary) (delta_of left summary))
        (sym sent) ∙ h.cells;
    map = h.map;
    sorted = left_sorted;
    rest_sorted = s.sorted;
    same = rest_same;
  }

  -- the cell is not sent
  pub missing_same : is_missing (find key_cmp k summary) c.stamp ≡ false
      → AreMissingSoFar all left missing summary more
  missing_same held = record {
    cells =
        ap (λ b. missing ++ cond b ((k, c) ∷ delta_of left summary) (delta_of left summary))
        (sym held) ∙ h.cells;
    map = h.map;
    sorted = left_sorted;
    rest_sorted = s.sorted;
    same = rest_same;
  }
