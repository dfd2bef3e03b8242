use Rattle.std.proofs.Common.{◌≡◌, [], ◌∷◌, length, true, false, sym, ◌∙◌, ap, subst}
use Rattle.std.specs.FinMap.Entries.{find}
use Rattle.cell_core.specs.Cell.{joined_cells}
use Rattle.cell_core.specs.Keyed.{IsMap, joined_at}
use Rattle.cell_core.specs.inner.KeyedPlaces.{place_of}
use Rattle.catalogue.specs.CataFault.{IsRefusal}
use Rattle.catalogue.specs.inner.CellRefusal.{IsCellRefusal, at_place}
use Rattle.cell_core.specs.Entry.{key_cmp}
use Rattle.catalogue.specs.Entries.{Entry, Agree, joined}
use Rattle.catalogue.specs.CatalogueFlat.{flat}
use Rattle.catalogue.proofs.CatalogueApplyLemmas.{agree_only, joined_only}
use Rattle.catalogue.proofs.CellRefusalLemmas.{refused_at}
use Rattle.catalogue.proofs.CatalogueNestedLemmas.{IsMap-catalogue}
use Rattle.catalogue.proofs.CatalogueWrittenLemmas.{length_written}
use Rattle.catalogue.proofs.catalogue.Catalogue.join_cell.Goals as goal
use Rattle.catalogue.proofs.catalogue.Catalogue.join_cell.Goals.{then-is_new, in-Some, in-None}
use Rattle.catalogue.proofs.catalogue.Catalogue.join_cell.Goals.{else-is_new}

-- The cell is in its message's map, so this is a catalogue; a new key makes one cell more, which
-- was found before, or the cells are counted anew.
pub invariant_of-self : goal.invariant_of-self
invariant_of-self c =
    let m = c.self.inside.map in
    let new = c.join_in.new.map in
    let e : Entry = ((c.args.id.now, c.args.lang.now), c.args.cell.now) in
    record {
      nested = c.join_in.ensures.nested;
      counted = elim c.match-len.branch as (λ _. c.match-len.self ≡ length (flat new)) [
        | in-Some w ↦
            w.self-is ∙ w.in-Some.ensures
            ∙ sym (length_written m new c.self.invariant.nested c.args.self.now c.self.view_is e.0
            (joined_at joined_cells (find key_cmp e.0 (flat m)) e.1) true
            (sym c.if-is_new.true ∙ c.in-Ok.ensures.new) c.in-Ok.ensures.ok)
        | in-None w ↦ w.self-is ∙ w.count-self-inside.ensures
      ];
    }

pub invariant_of-self-else-is_new : goal.invariant_of-self-else-is_new
invariant_of-self-else-is_new c =
    let m = c.self.inside.map in
    let e : Entry = ((c.args.id.now, c.args.lang.now), c.args.cell.now) in
    record {
      nested = c.join_in.ensures.nested;
      counted = c.self.invariant.counted ∙ ap length c.self.view_is
          ∙ sym (length_written m c.join_in.new.map c.self.invariant.nested c.args.self.now
          c.self.view_is e.0 (joined_at joined_cells (find key_cmp e.0 (flat m)) e.1) false
          (sym c.if-is_new.false ∙ c.in-Ok.ensures.new) c.in-Ok.ensures.ok);
    }

pub returns-after-is_new-clause-ok : goal.returns-after-is_new-clause-ok
returns-after-is_new-clause-ok c =
    let m = c.self.inside.map in
    let e : Entry = ((c.args.id.now, c.args.lang.now), c.args.cell.now) in
    let all : flat c.join_in.new.map ≡ joined c.args.self.now (e ∷ []) =
    c.in-Ok.ensures.ok
    ∙ sym (joined_only (flat m) e (IsMap-catalogue m c.self.invariant.nested))
    ∙ ap (λ es. joined es (e ∷ [])) c.self.view_is in
    elim c.if-is_new.branch as (λ _. c.if-is_new.self ≡ joined c.args.self.now (e ∷ [])) [
      | then-is_new w ↦ w.self-is ∙ all
      | else-is_new w ↦ w.self-is ∙ all
    ]

pub returns-after-is_new-clause-agree : goal.returns-after-is_new-clause-agree
returns-after-is_new-clause-agree c =
    let m = c.self.inside.map in
    let e : Entry = ((c.args.id.now, c.args.lang.now), c.args.cell.now) in
    subst (λ es. Agree es (e ∷ [])) c.self.view_is
    (agree_only (flat m) e (IsMap-catalogue m c.self.invariant.nested) c.in-Ok.ensures.agree)

pub returns-after-is_new-clause-sorted : goal.returns-after-is_new-clause-sorted
returns-after-is_new-clause-sorted c =
    subst (IsMap key_cmp) c.self.view_is (IsMap-catalogue c.self.inside.map c.self.invariant.nested)

pub returns-in-Err-clause-fault : goal.returns-in-Err-clause-fault
returns-in-Err-clause-fault c =
    let own = c.args.self.now in
    let e : Entry = ((c.args.id.now, c.args.lang.now), c.args.cell.now) in
    let refusal = c.in-Err.refusal in
    let place =
    ap (λ es. at_place (place_of key_cmp e.0 es) refusal)
    (ap flat c.in-Err.ensures.err ∙ c.self.view_is) in
    subst (IsRefusal own (e ∷ [])) (sym (c.at_key.ensures ∙ place))
    (refused_at own e refusal
    (subst (IsMap key_cmp) c.self.view_is
    (IsMap-catalogue c.self.inside.map c.self.invariant.nested))
    (subst (λ es. IsCellRefusal (find key_cmp e.0 es) e.1 refusal) c.self.view_is
    c.in-Err.ensures.fault))

pub returns-in-Err-clause-sorted : goal.returns-in-Err-clause-sorted
returns-in-Err-clause-sorted c =
    subst (IsMap key_cmp) c.self.view_is (IsMap-catalogue c.self.inside.map c.self.invariant.nested)
