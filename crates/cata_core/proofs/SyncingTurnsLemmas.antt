-- Two catalogues that take each other's cells, one after the other.
use Rattle.std.proofs.Common.{◌≡◌, Option, Some, None, inl, inr, sym, ap, ◌∙◌, subst}
use Rattle.std.specs.FinMap.Entries.{find}
use Rattle.cell_core.specs.declared.cell.Cell.{Cell}
use Rattle.cell_core.specs.Cell.{AgreeCells, joined_cells}
use Rattle.cell_core.specs.inner.Cell.{cell_laws}
use Rattle.cell_core.specs.Join.{IsBelow}
use Rattle.cell_core.specs.StampLater.{IsEitherOf}
use Rattle.cell_core.specs.Keyed.{IsMap, AgreeIfBoth, joined_if_both, BetweenIfBoth}
use Rattle.cell_core.specs.inner.KeyedLaws.{find-joined_maps}
use Rattle.cell_core.specs.Entry.{key_cmp}
use Rattle.cell_core.specs.inner.Entry.{key_cmp_total}
use Rattle.catalogue.specs.Entries.{Entries, Agree, joined, Between}
use Rattle.catalogue.specs.inner.Entries.{catalogue_laws}

-- The second of two catalogues that agree agrees with their join.
pub agrees_with_join : (a b : Entries) → Agree a b → Agree b (joined a b)
agrees_with_join a b h = let below : IsBelow Agree joined b (joined a b) =
    catalogue_laws.above_second a b h in below.0

-- The join of two catalogues that agree stays the same when the second is joined to it again.
pub joined_to_join : (a b : Entries) → Agree a b → joined b (joined a b) ≡ joined a b
joined_to_join a b h = let below : IsBelow Agree joined b (joined a b) =
    catalogue_laws.above_second a b h in below.1

-- If one catalogue agrees with another, that one agrees with it.
pub agrees_back : (a b : Entries) → Agree a b → Agree b a
agrees_back a b h = catalogue_laws.agree_symm a b h

-- The join of two catalogues that agree is the same in either order.
pub joined_back : (a b : Entries) → Agree a b → joined a b ≡ joined b a
joined_back a b h = catalogue_laws.comm a b h

between_none : (x o : Option Cell)
    → BetweenIfBoth (IsEitherOf joined_cells) None x (joined_if_both joined_cells o None)
    → BetweenIfBoth (IsEitherOf joined_cells) None x o
between_none None o h = tt
between_none (Some c) None h = h
between_none (Some c) (Some d) h = h

either_cell : (a x b : Cell) → AgreeCells b a → IsEitherOf joined_cells a x (joined_cells b a)
    → IsEitherOf joined_cells a x b
either_cell a x b agree h = elim h as (λ _. IsEitherOf joined_cells a x b) [
  | inl e ↦ inl e
  | inr e ↦
      inr (e
      ∙ (let below : IsBelow AgreeCells joined_cells a (joined_cells b a) =
      cell_laws.above_second b a agree in below.1) ∙ cell_laws.comm b a agree)
]

either_same : (a x : Cell) → IsEitherOf joined_cells a x a → x ≡ a
either_same a x h = elim h as (λ _. x ≡ a) [ inl e ↦ e | inr e ↦ e ∙ cell_laws.idem a ]

between_at : (a x b : Option Cell) → AgreeIfBoth AgreeCells b a
    → BetweenIfBoth (IsEitherOf joined_cells) a x (joined_if_both joined_cells b a)
    → BetweenIfBoth (IsEitherOf joined_cells) a x b
between_at None x b agree h = between_none x b h
between_at (Some a) None None agree h = h
between_at (Some a) None (Some b) agree h = h
between_at (Some a) (Some x) None agree h = either_same a x h
between_at (Some a) (Some x) (Some b) agree h = either_cell a x b agree h

-- what is on the way to the join with the join is on the way to the join
pub between_join : (a x b : Entries) → Agree b a → Between a x (joined b a) → Between a x b
between_join a x b agree h = elim h as (λ _. Between a x b) [
  | inl e ↦ inl e
  | inr r ↦ elim agree as (λ _. Between a x b) [
    | inl e ↦ inr (record {
      first = r.first;
      middle = r.middle;
      last = subst (IsMap key_cmp) (sym e) r.first;
      at = λ q. let same : find key_cmp q (joined b a) ≡ find key_cmp q b =
          ap (find key_cmp q) (ap (joined b) (sym e) ∙ catalogue_laws.idem b) in
          subst (BetweenIfBoth (IsEitherOf joined_cells) (find key_cmp q a) (find key_cmp q x)) same
          (r.at q);
    })
    | inr s ↦ inr (record {
      first = r.first;
      middle = r.middle;
      last = s.first;
      at = λ q. between_at (find key_cmp q a) (find key_cmp q x) (find key_cmp q b) (s.at q)
          (subst (BetweenIfBoth (IsEitherOf joined_cells) (find key_cmp q a) (find key_cmp q x))
          (find-joined_maps key_cmp key_cmp_total joined_cells b a s.first s.second q)
          (r.at q));
    })
  ]
]
