-- What a spare missed, when it misses more.
use Rattle.std.proofs.Common.{◌≡◌, ◌∙◌, Bool, true, false, cond, Option, Some, None, inr}
use Rattle.std.proofs.Common.{refl, sym, ap, ap₂, subst, true≢false, List, ℕ}
use Rattle.std.specs.FinMap.Entries.{find}
use Rattle.std.specs.Ordering.{is_lt}
use Rattle.std.specs.Prelude.{Err, Ok, OnOk, Result}
use Rattle.std.specs.Result.{result_ok}
use Rattle.cell_core.specs.declared.cell.Cell.{Cell}
use Rattle.cell_core.specs.Cell.{AgreeCells, joined_cells}
use Rattle.cell_core.specs.inner.Cell.{cell_laws, stamp_cmp_total}
use Rattle.cell_core.specs.Keyed.{AgreeIfBoth, IsMap}
use Rattle.cell_core.specs.inner.KeyedLaws.{also_map, at_of, find-joined_maps}
use Rattle.cell_core.specs.Keyed.{joined_if_both}
use Rattle.cell_core.specs.inner.KeyedLaws.{joined_maps-IsMap, same_maps}
use Rattle.cell_core.specs.Stamp.{stamp_cmp}
use Rattle.cell_core.specs.Entry.{key_cmp}
use Rattle.catalogue.specs.Entries.{Agree, Entries, IsBelowCells, joined}
use Rattle.catalogue.specs.inner.Entries.{catalogue_laws}
use Rattle.cell_core.specs.Entry.{EntryKey}
use Rattle.cell_core.specs.inner.Entry.{key_cmp_exact, key_cmp_total}
use Rattle.cata_core.specs.Site.{SiteState}
use Rattle.catalogue.proofs.EditStampOrderLemmas.{lt_self, not_lt_trans}
use Rattle.front_core.specs.OpenSite.{IsJoined}
use Rattle.lang_core.proofs.Basics.{less_of}

-- What a call promises where it succeeds holds where its value is read.
pub on_ok_at : {T E P : Type 0} (r : Result T E) (x : T) → result_ok r ≡ Some x → OnOk r P → P
on_ok_at (Ok y) x is holds = holds
on_ok_at (Err e) x is holds = cc

-- ---- cells

-- the first cell is older
abbrev older : Cell → Cell → Bool
older c d = is_lt (stamp_cmp c.stamp d.stamp)

older_agrees : (c d : Cell) → older c d ≡ true → AgreeCells c d
older_agrees c d h =
    λ same. absurd
    (true≢false
    (sym h ∙ ap (λ s. is_lt (stamp_cmp c.stamp s)) (sym same) ∙ lt_self c.stamp))

older_trans : (a b c : Cell) → older a b ≡ true → older b c ≡ true → older a c ≡ true
older_trans a b c g h =
    ap is_lt (stamp_cmp_total.trans a.stamp b.stamp c.stamp (less_of (stamp_cmp a.stamp b.stamp) g)
    (less_of (stamp_cmp b.stamp c.stamp) h))

-- what agrees with a join of two that agree can be joined to the second first
more_cells : (a m n : Cell) → AgreeCells a m → AgreeCells (joined_cells a m) n
    → AgreeCells a (joined_cells m n)
    × (joined_cells (joined_cells a m) n ≡ joined_cells a (joined_cells m n))
more_cells a m n am =
    elim (older a m) as
    (λ t. older a m ≡ t → AgreeCells (cond t m a) n
    → AgreeCells a (joined_cells m n)
    × (joined_cells (cond t m a) n ≡ joined_cells a (joined_cells m n))) [
      | true ↦ λ p k. elim (older m n) as
          (λ u. older m n ≡ u
          → AgreeCells a (cond u n m) × (cond u n m ≡ joined_cells a (cond u n m))) [
            | true ↦ λ q. let r = older_trans a m n p q in (
              older_agrees a n r,
              ap (λ t. cond t n a) (sym r),
            )
            | false ↦ λ q. (am, ap (λ t. cond t m a) (sym p))
          ] refl
      | false ↦ λ p k. elim (older m n) as
          (λ u. older m n ≡ u
          → AgreeCells a (cond u n m) × (joined_cells a n ≡ joined_cells a (cond u n m))) [
            | true ↦ λ q. (k, refl)
            | false ↦ λ q. (
              am,
              ap (λ t. cond t n a) (not_lt_trans a.stamp m.stamp n.stamp p q)
                  ∙ ap (λ t. cond t m a) (sym p),
            )
          ] refl
    ] refl

more_at : (a m n : Option Cell) → AgreeIfBoth AgreeCells a m
    → AgreeIfBoth AgreeCells (joined_if_both joined_cells a m) n
    → AgreeIfBoth AgreeCells a (joined_if_both joined_cells m n)
    × (joined_if_both joined_cells (joined_if_both joined_cells a m) n
    ≡ joined_if_both joined_cells a (joined_if_both joined_cells m n))
more_at None m n h k = (tt, refl)
more_at (Some a) None n h k = (k, refl)
more_at (Some a) (Some m) None h k = (h, refl)
more_at (Some a) (Some m) (Some n) h k = let w = more_cells a m n h k in (w.0, ap Some w.1)

-- ---- catalogues

-- what agrees with a join of two that agree can be joined to the second first
pub more_joined : (a m n : Entries) → IsMap key_cmp m → Agree a m → Agree (joined a m) n
    → Agree a (joined m n) × (joined (joined a m) n ≡ joined a (joined m n))
more_joined a m n is_m am abn =
    let is_a : IsMap key_cmp a =
    also_map key_cmp key_cmp_total key_cmp_exact cell_laws m a (catalogue_laws.agree_symm a m am)
    is_m in
    let is_am = joined_maps-IsMap key_cmp key_cmp_total joined_cells a m is_a is_m in
    let is_n : IsMap key_cmp n =
    also_map key_cmp key_cmp_total key_cmp_exact cell_laws (joined a m) n abn is_am in
    let is_mn = joined_maps-IsMap key_cmp key_cmp_total joined_cells m n is_m is_n in
    let in_am = find-joined_maps key_cmp key_cmp_total joined_cells a m is_a is_m in
    let in_mn = find-joined_maps key_cmp key_cmp_total joined_cells m n is_m is_n in
    let at =
    λ (q : EntryKey). more_at (find key_cmp q a) (find key_cmp q m) (find key_cmp q n)
    (at_of key_cmp key_cmp_total key_cmp_exact cell_laws a m am q)
    (subst (λ o. AgreeIfBoth AgreeCells o (find key_cmp q n)) (in_am q)
    (at_of key_cmp key_cmp_total key_cmp_exact cell_laws (joined a m) n abn q)) in (
      inr (record {
        first = is_a;
        second = is_mn;
        at = λ q. let w = at q in
            subst (AgreeIfBoth AgreeCells (find key_cmp q a)) (sym (in_mn q)) w.0;
      }),
      same_maps key_cmp key_cmp_total key_cmp_exact (joined (joined a m) n) (joined a (joined m n))
          (joined_maps-IsMap key_cmp key_cmp_total joined_cells (joined a m) n is_am is_n)
          (joined_maps-IsMap key_cmp key_cmp_total joined_cells a (joined m n) is_a is_mn)
          (λ q. let w = at q in
          find-joined_maps key_cmp key_cmp_total joined_cells (joined a m) n is_am is_n q
          ∙ ap (λ o. joined_if_both joined_cells o (find key_cmp q n)) (in_am q)
          ∙ w.1
          ∙ ap (joined_if_both joined_cells (find key_cmp q a)) (sym (in_mn q))
          ∙ sym (find-joined_maps key_cmp key_cmp_total joined_cells a (joined m n) is_a is_mn q)),
    )

-- what is above a catalogue is above what is below that
pub above_trans : (a b c : Entries) → IsMap key_cmp b → IsBelowCells a b → IsBelowCells b c
    → IsBelowCells a c
above_trans a b c is_b ab bc =
    let agrees = subst (λ (es : Entries). Agree es c) (sym ab.1) bc.0 in
    let more = more_joined a b c is_b ab.0 agrees in (
      subst (Agree a) bc.1 more.0,
      ap (joined a) (sym bc.1) ∙ sym more.1 ∙ ap (λ (es : Entries). joined es c) ab.1 ∙ bc.1,
    )

-- ---- sites

abbrev with_cells : List ℕ → Entries → SiteState
with_cells name es = record { name = name; cells = es }

-- A site that is joined with some cells, and then with others, is joined with the join of both.
pub joined_with_more : (a b c : SiteState) (m n : Entries) → IsMap key_cmp m → IsJoined m a b
    → IsJoined n b c → IsJoined (joined m n) a c
joined_with_more a b c m n is_m ab bc =
    let cells : b.cells ≡ joined a.cells m = ap (λ (s : SiteState). s.cells) ab.1 in
    let more =
    more_joined a.cells m n is_m ab.0 (subst (λ (es : Entries). Agree es n) cells bc.0) in (
      more.0,
      bc.1
          ∙ ap₂ with_cells (ap (λ (s : SiteState). s.name) ab.1)
          (ap (λ (es : Entries). joined es n) cells ∙ more.1),
    )
