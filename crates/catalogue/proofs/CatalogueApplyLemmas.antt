-- How one cell joins a catalogue.
use Rattle.std.proofs.Common.{◌≡◌, ℕ, true, false, cond, [], ◌∷◌, Option, Some, None, inr, sym, ap}
use Rattle.std.proofs.Common.{◌∙◌, subst, refl, true≢false}
use Rattle.std.specs.declared.cmp.Ordering.{Ordering}
use Rattle.std.specs.declared.cmp.Ordering.TheVariants.{Equal}
use Rattle.std.specs.Ordering.{is_eq, is_lt, is_gt, eq_by_cmp}
use Rattle.std.specs.Cmp.{tied_itself}
use Rattle.std.specs.FinMap.Entries.{find, put, find_tied}
use Rattle.cell_core.specs.declared.cell.Cell.{Cell}
use Rattle.cell_core.specs.Cell.{AgreeCells, joined_cells}
use Rattle.cell_core.specs.Stamp.{stamp_cmp}
use Rattle.cell_core.specs.Keyed.{IsMap, AgreeIfBoth, joined_at}
use Rattle.cell_core.specs.inner.KeyedLaws.{joined_of_maps}
use Rattle.cell_core.specs.inner.KeyedPlaces.{place_of}
use Rattle.cell_core.specs.Entry.{key_cmp}
use Rattle.cell_core.specs.inner.Entry.{key_cmp_total, key_cmp_exact}
use Rattle.catalogue.specs.Entries.{Entry, Entries, Agree}
use Rattle.catalogue.specs.Entries.{joined}
use Rattle.catalogue.specs.Clash.{IsFirstClash}
use Rattle.cell_core.proofs.Basics.{tied_order as tied}
use Rattle.catalogue.proofs.PlacesKeyLemmas.{stands_at_place, before_place}

-- A cell, or none, agrees with the absence of a cell.
pub with_none : (o : Option Cell) → AgreeIfBoth AgreeCells o None
with_none None = tt
with_none (Some c) = tt

-- cells agree with one edit's where they do at its key
pub agree_only : (es : Entries) (e : Entry) → IsMap key_cmp es
    → AgreeIfBoth AgreeCells (find key_cmp e.0 es) (Some e.1) → Agree es (e ∷ [])
agree_only es e m h = inr (record {
  first = m;
  second = tt;
  at = λ q. elim (eq_by_cmp key_cmp q e.0) as
      (λ t. eq_by_cmp key_cmp q e.0 ≡ t
      → AgreeIfBoth AgreeCells (find key_cmp q es) (cond t (Some e.1) None)) [
        | true ↦
            λ t. subst (λ o. AgreeIfBoth AgreeCells o (Some e.1))
            (find_tied key_cmp key_cmp_total q e.0 (tied (key_cmp q e.0) t) es) h
        | false ↦ λ t. with_none (find key_cmp q es)
      ] refl;
})

-- A catalogue agrees with an edit where its cell of the edit's key agrees with the edit's.
pub agree_some : (es : Entries) (e : Entry) (mine : Cell) → IsMap key_cmp es
    → Some mine ≡ find key_cmp e.0 es → AgreeCells mine e.1 → Agree es (e ∷ [])
agree_some es e mine m there h =
    agree_only es e m (subst (λ o. AgreeIfBoth AgreeCells o (Some e.1)) there h)

-- A catalogue without a cell of the edit's key agrees with the edit.
pub agree_none : (es : Entries) (e : Entry) → IsMap key_cmp es → find key_cmp e.0 es ≡ None
    → Agree es (e ∷ [])
agree_none es e m none =
    agree_only es e m (subst (λ o. AgreeIfBoth AgreeCells o (Some e.1)) (sym none) tt)

-- A join with one edit has at its key the edit's cell, joined to the one there if there is one.
pub joined_only : (es : Entries) (e : Entry) → IsMap key_cmp es
    → joined es (e ∷ []) ≡ put key_cmp e.0 (joined_at joined_cells (find key_cmp e.0 es) e.1) es
joined_only es e m = joined_of_maps key_cmp key_cmp_total joined_cells es (e ∷ []) m tt

-- The join with an edit of a key without a cell puts the edit's cell there.
pub joined_new : (es : Entries) (e : Entry) → IsMap key_cmp es → find key_cmp e.0 es ≡ None
    → put key_cmp e.0 e.1 es ≡ joined es (e ∷ [])
joined_new es e m none =
    ap (λ o. put key_cmp e.0 (joined_at joined_cells o e.1) es) (sym none)
    ∙ sym (joined_only es e m)

-- An edit with a later stamp than the cell of its key replaces that cell in the join.
pub joined_later : (es : Entries) (e : Entry) (mine : Cell) → IsMap key_cmp es
    → Some mine ≡ find key_cmp e.0 es → is_lt (stamp_cmp mine.stamp e.1.stamp) ≡ true
    → put key_cmp e.0 e.1 es ≡ joined es (e ∷ [])
joined_later es e mine m there lt =
    ap (λ c. put key_cmp e.0 c es) (sym (ap (λ t. cond t e.1 mine) lt))
    ∙ ap (λ o. put key_cmp e.0 (joined_at joined_cells o e.1) es) there
    ∙ sym (joined_only es e m)

greater_not_tied : (r : Ordering) → is_gt r ≡ true → r ≡ Equal → ⊥
greater_not_tied r g e = true≢false (sym g ∙ ap is_gt e)

-- the one key of an edit is the first place of a clash with it
pub first_clash_only : (es : Entries) (e : Entry) (mine : Cell) (place : ℕ) → IsMap key_cmp es
    → Some mine ≡ find key_cmp e.0 es → ¬ (AgreeCells mine e.1) → place ≡ place_of key_cmp e.0 es
    → IsFirstClash key_cmp es (e ∷ []) place mine.stamp
first_clash_only es e mine place m there differ is =
    subst (λ n. IsFirstClash key_cmp es (e ∷ []) n mine.stamp) (sym is) (record {
      before = λ j lt k c d at found.
          elim (eq_by_cmp key_cmp k e.0) as
          (λ t. eq_by_cmp key_cmp k e.0 ≡ t → cond t (Some e.1) None ≡ Some d → AgreeCells c d) [
            | true ↦ λ t f.
                let same : k ≡ e.0 = key_cmp_exact k e.0 (tied (key_cmp k e.0) t) in
                absurd
                (greater_not_tied (key_cmp e.0 k) (before_place key_cmp e.0 es j k c lt at)
                (subst (λ x. key_cmp e.0 x ≡ Equal) (sym same) (tied_itself key_cmp_total e.0)))
            | false ↦ λ t f. absurd (cc)
          ] refl found;
      key = e.0;
      mine = mine;
      theirs = e.1;
      held = stands_at_place key_cmp key_cmp_exact key_cmp_total e.0 es mine m (sym there);
      other_has = ap (λ r. cond (is_eq r) (Some e.1) None) (tied_itself key_cmp_total e.0);
      differ = differ;
      stamp_there = refl;
    })
