-- A delta against a summary of what one holds joins to what the whole would.
use Rattle.std.proofs.Common.{◌≡◌, Bool, true, false, cond, ◌&&◌, Option, Some, None, inl, inr}
use Rattle.std.proofs.Common.{refl, sym, ap, ◌∙◌, subst, true≢false}
use Rattle.std.specs.Prelude.{T}
use Rattle.std.specs.FinMap.Entries.{find, is_sorted}
use Rattle.cell_core.specs.declared.cell.Cell.{Cell}
use Rattle.cell_core.specs.declared.stamp.Stamp.{Stamp}
use Rattle.cell_core.specs.Stamp.{stamp_cmp}
use Rattle.cell_core.specs.Cell.{AgreeCells, joined_cells}
use Rattle.cell_core.specs.inner.Cell.{cell_laws}
use Rattle.cell_core.specs.Keyed.{IsMap, AgreeIfBoth, joined_if_both}
use Rattle.cell_core.specs.inner.KeyedLaws.{joined_maps-IsMap}
use Rattle.cell_core.specs.Keyed.{joined_entries}
use Rattle.cell_core.specs.inner.KeyedLaws.{find-joined_maps, same_maps, at_of}
use Rattle.cell_core.specs.Entry.{key_cmp}
use Rattle.cell_core.specs.inner.Entry.{key_cmp_total, key_cmp_exact}
use Rattle.catalogue.specs.Entries.{Entry, Entries, Agree}
use Rattle.catalogue.specs.Entries.{joined}
use Rattle.cata_core.specs.Delta.{Stamps, is_missing, delta_of, HasAtLeast, HasAll}
use Rattle.catalogue.proofs.Basics.{not_lt}
use Rattle.catalogue.proofs.EditStampOrderLemmas.{not_lt_trans}
use Rattle.catalogue.proofs.EntriesFilteredLemmas.{kept_if, filter-IsMap, find-filter}

-- what was not sent changes nothing
unsent : (own : Option Cell) (known : Option Stamp) (c : Cell)
    → ((s : Stamp) → known ≡ Some s → HasAtLeast own s) → is_missing known c.stamp ≡ false
    → joined_if_both joined_cells own None ≡ joined_if_both joined_cells own (Some c)
unsent own None c has old = absurd (true≢false old)
unsent None (Some s) c has old = absurd (has s refl)
unsent (Some d) (Some s) c has old =
    ap (λ t. Some (cond t c d))
    (sym (not_lt_trans d.stamp s c.stamp (not_lt (stamp_cmp d.stamp s) (has s refl)) old))

sent_or_not : (own : Option Cell) (known : Option Stamp) (theirs : Option Cell)
    → ((s : Stamp) → known ≡ Some s → HasAtLeast own s)
    → joined_if_both joined_cells own (kept_if (λ c. is_missing known c.stamp) theirs)
    ≡ joined_if_both joined_cells own theirs
sent_or_not own known None has = refl
sent_or_not own known (Some c) has =
    elim (is_missing known c.stamp) as
    (λ b. is_missing known c.stamp ≡ b
    → joined_if_both joined_cells own (cond b (Some c) None)
    ≡ joined_if_both joined_cells own (Some c)) [
      | true ↦ λ b. refl
      | false ↦ λ b. unsent own known c has b
    ] refl

-- Who has all of a summary gets from the delta against it what the whole catalogue would give.
pub nothing_lost_of_maps : (own sender : Entries) (summary : Stamps) → IsMap key_cmp own
    → IsMap key_cmp sender → HasAll own summary
    → joined own (delta_of sender summary) ≡ joined own sender
nothing_lost_of_maps own sender summary m n has =
    let missing = λ (e : Entry). is_missing (find key_cmp e.0 summary) e.1.stamp in
    let delta = delta_of sender summary in
    let d : IsMap key_cmp delta = filter-IsMap key_cmp missing sender n in
    same_maps key_cmp key_cmp_total key_cmp_exact (joined own delta) (joined own sender)
    (joined_maps-IsMap key_cmp key_cmp_total joined_cells own delta m d)
    (joined_maps-IsMap key_cmp key_cmp_total joined_cells own sender m n)
    (λ q. find-joined_maps key_cmp key_cmp_total joined_cells own delta m d q
    ∙ ap (joined_if_both joined_cells (find key_cmp q own))
    (find-filter key_cmp missing key_cmp_total key_cmp_exact q sender n)
    ∙ sent_or_not (find key_cmp q own) (find key_cmp q summary) (find key_cmp q sender)
    (λ s e. has q s e)
    ∙ sym (find-joined_maps key_cmp key_cmp_total joined_cells own sender m n q))

-- a delta against a summary that one has in full joins to what the whole would
pub nothing_lost : (own sender : Entries) (summary : Stamps) → Agree own sender → HasAll own summary
    → joined own (delta_of sender summary) ≡ joined own sender
nothing_lost own sender summary agree has =
    elim agree as (λ _. joined own (delta_of sender summary) ≡ joined own sender) [
      | inl e ↦ subst (λ other. joined own (delta_of other summary) ≡ joined own other) e
          (elim (is_sorted key_cmp own) as
          (λ b. is_sorted key_cmp own ≡ b → joined own (delta_of own summary) ≡ joined own own) [
            | true ↦ λ b. let m : IsMap key_cmp own = subst T (sym b) tt in
                nothing_lost_of_maps own own summary m m has
            | false ↦
                λ b. ap
                (λ t. cond (t && is_sorted key_cmp (delta_of own summary))
                (joined_entries key_cmp joined_cells own (delta_of own summary)) own) b
                ∙ sym (ap
                (λ t. cond (t && is_sorted key_cmp own)
                (joined_entries key_cmp joined_cells own own) own) b)
          ] refl)
      | inr r ↦ nothing_lost_of_maps own sender summary r.first r.second has
    ]

-- what agrees with the whole agrees with a delta of it
pub part_agrees : (own sender : Entries) (summary : Stamps) → IsMap key_cmp own
    → IsMap key_cmp sender → Agree own sender → Agree own (delta_of sender summary)
part_agrees own sender summary m n agree =
    let missing = λ (e : Entry). is_missing (find key_cmp e.0 summary) e.1.stamp in
    inr (record {
      first = m;
      second = filter-IsMap key_cmp missing sender n;
      at = λ q. subst (AgreeIfBoth AgreeCells (find key_cmp q own))
          (sym (find-filter key_cmp missing key_cmp_total key_cmp_exact q sender n))
          (kept_agrees (λ c. missing (q, c)) (find key_cmp q own) (find key_cmp q sender)
          (at_of key_cmp key_cmp_total key_cmp_exact cell_laws own sender agree q));
    })
  where
    kept_agrees : (p : Cell → Bool) (a b : Option Cell) → AgreeIfBoth AgreeCells a b
        → AgreeIfBoth AgreeCells a (kept_if p b)
    kept_agrees p None b h = tt
    kept_agrees p (Some c) None h = tt
    kept_agrees p (Some c) (Some d) h =
        elim (p d) as
        (λ t. AgreeIfBoth AgreeCells (Some c) (cond t (Some d) None)) [ true ↦ h | false ↦ tt ]
