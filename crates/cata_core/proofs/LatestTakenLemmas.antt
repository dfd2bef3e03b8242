-- The latest stamp held is the latest taken in.
use Rattle.std.proofs.Common.{◌≡◌, ◌≢◌, true, false, cond, List, [], ◌∷◌, ◌⊎◌, Option, Some, None}
use Rattle.std.proofs.Common.{inl, inr, refl, sym, ap, ◌∙◌, subst}
use Rattle.std.specs.Prelude.{filter}
use Rattle.std.specs.declared.cmp.Ordering.TheVariants.{Less, Equal, Greater}
use Rattle.std.specs.Ordering.{eq_by_cmp}
use Rattle.std.specs.FinMap.Entries.{find, put, by_order}
use Rattle.cell_core.specs.declared.cell.Cell.{Cell}
use Rattle.cell_core.specs.declared.stamp.Stamp.{Stamp}
use Rattle.cell_core.specs.Stamp.{stamp_cmp}
use Rattle.cell_core.specs.Entry.{EntryKey, key_cmp}
use Rattle.cell_core.specs.inner.Entry.{key_cmp_exact}
use Rattle.catalogue.specs.Entries.{Entry, Entries}
use Rattle.catalogue.specs.Edits.{is_best, entries_of, catalogue_of}
use Rattle.catalogue.specs.CatalogueLatest.{latest_of, IsLatest}
use Rattle.catalogue.proofs.Basics.{some_same}
use Rattle.catalogue.proofs.CatalogueMembersLemmas.{In, in_from_Contains, Contains-from_in}
use Rattle.catalogue.proofs.CatalogueMembersLemmas.{in_filter}
use Rattle.catalogue.proofs.EditStampOrderLemmas.{not_less_trans}
use Rattle.catalogue.proofs.CatalogueLemmas.{found_best, has_cell}
use Rattle.catalogue.proofs.CatalogueLatestLemmas.{latest_is}

-- what is in a map after a put was put, or was there before
in_put : (k : EntryKey) (c : Cell) (es : Entries) (x : Entry) → In (put key_cmp k c es) x
    → ((k, c) ≡ x) ⊎ In es x
in_put k c [] x h = h
in_put k c (e ∷ es) x h =
    elim (key_cmp k e.0) as
    (λ r. key_cmp k e.0 ≡ r
    → In (by_order r ((k, c) ∷ e ∷ es) ((e.0, c) ∷ es) (e ∷ put key_cmp k c es)) x
    → ((k, c) ≡ x) ⊎ In (e ∷ es) x) [
      | Less ↦ λ t h. h
      | Equal ↦
          λ t h. elim h as
          (λ _. ((k, c) ≡ x) ⊎ In (e ∷ es) x) [
            | inl s ↦
                inl (ap (λ (q : EntryKey). (q, c)) (key_cmp_exact k e.0 t) ∙ s)
            | inr r ↦ inr (inr r)
          ]
      | Greater ↦ λ t h. elim h as (λ _. ((k, c) ≡ x) ⊎ In (e ∷ es) x) [
        | inl s ↦ inr (inl s)
        | inr r ↦
            elim (in_put k c es x r) as
            (λ _. ((k, c) ≡ x) ⊎ In (e ∷ es) x) [ inl a ↦ inl a | inr b ↦ inr (inr b) ]
      ]
    ] refl h

in_entries : (es : List Entry) (x : Entry) → In (entries_of es) x → In es x
in_entries [] x h = h
in_entries (e ∷ es) x h =
    elim (in_put e.0 e.1 (entries_of es) x h) as
    (λ _. In (e ∷ es) x) [ inl s ↦ inl s | inr r ↦ inr (in_entries es x r) ]

-- what a catalogue has was taken
pub in_catalogue : (xs : List Entry) (x : Entry) → In (catalogue_of xs) x → In xs x
in_catalogue xs x h = let g =
    in_filter (is_best xs) xs x (in_entries (filter (is_best xs) xs) x h) in g.0

-- what is found at a key is there
found_in : (k : EntryKey) (c : Cell) (es : Entries) → find key_cmp k es ≡ Some c
    → (e : Entry) × In es e × (e.1 ≡ c)
found_in k c [] h = absurd (cc)
found_in k c (e ∷ es) h =
    elim (eq_by_cmp key_cmp k e.0) as
    (λ t. cond t (Some e.1) (find key_cmp k es) ≡ Some c
    → (f : Entry) × In (e ∷ es) f × (f.1 ≡ c)) [
      | true ↦ λ h. (e, inl refl, some_same e.1 c h)
      | false ↦ λ h. let g = found_in k c es h in (g.0, inr g.1, g.2)
    ] h

-- The latest stamp of the catalogue of a list is the latest of all its edits.
pub latest_taken : (xs : List Entry) → IsLatest xs (latest_of (catalogue_of xs))
latest_taken xs =
    at (latest_of (catalogue_of xs))
    (latest_is (catalogue_of xs) (latest_of (catalogue_of xs)) refl)
  where
    nothing : (ys : List Entry) → catalogue_of ys ≡ [] → ys ≡ []
    nothing [] none = refl
    nothing (y ∷ ys) none =
        let d = has_cell (y ∷ ys) y.0 y.1 (inl refl) in
        let gone : None ≡ Some d.0 = ap (find key_cmp y.0) (sym none) ∙ d.1 in
        absurd (cc)

    at : (latest : Option Stamp) → IsLatest (catalogue_of xs) latest → IsLatest xs latest
    at None none = nothing xs none
    at (Some s) g = record {
      entry = g.entry;
      held =
          Contains-from_in xs g.entry
          (in_catalogue xs g.entry (in_from_Contains (catalogue_of xs) g.entry g.held));
      stamp_is = g.stamp_is;
      latest = λ e has.
          let d = has_cell xs e.0 e.1 (in_from_Contains xs e has) in
          let best = found_best xs e.0 d.0 d.1 in
          let there = found_in e.0 d.0 (catalogue_of xs) d.1 in
          let high : stamp_cmp s there.0.1.stamp ≢ Less =
          g.latest there.0 (Contains-from_in (catalogue_of xs) there.0 there.1) in
          not_less_trans s d.0.stamp e.1.stamp
          (subst (λ (c : Cell). stamp_cmp s c.stamp ≢ Less) there.2 high)
          (best.greatest e.1 has);
    }
