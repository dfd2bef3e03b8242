use Rattle.std.proofs.Common.{◌∙◌, ◌++◌, [], ◌∷◌, ap, ap₂, append_assoc, refl, subst, sym}
use Rattle.catalogue.specs.Cells.{cells_left}
use Rattle.catalogue.specs.Entries.{Entries, Entry}
use Rattle.site_docs.proofs.ShowingLemmas.{shown_above}
use Rattle.site_docs.proofs.showing.show_catalogue.Goals as goal

-- the key is greater than those of the cells before
pub see-requires : goal.see-requires
see-requires g c = λ κs.
    let inv = c.loop-id.invariant in
    let e : Entry = ((c.in-Some.id.now, c.in-Some.lang.now), c.in-Some.cell.now) in
    let all = ap (λ (t : Entries). inv.0 ++ t) (sym c.in-Some.ensures.steps) ∙ inv.2 in (
      (refl, tt),
      (
        (
          c.args.start.now,
          inv.0,
          inv.1,
          shown_above c.args.cells.now inv.0 (cells_left c.next.new.self) e
              c.iter-id-items.ensures.sorted all,
        ),
        (c.held_label-label.ensures.label, tt),
      ),
    )

-- The sink saw the cells before this one, and now this one.
pub loop-id-preserved : goal.loop-id-preserved
loop-id-preserved g c =
    let inv = c.loop-id.invariant in
    let left = cells_left c.next.new.self in
    let e : Entry = ((c.in-Some.id.now, c.in-Some.lang.now), c.in-Some.cell.now) in
    let all = ap (λ (t : Entries). inv.0 ++ t) (sym c.in-Some.ensures.steps) ∙ inv.2 in
    let above = shown_above c.args.cells.now inv.0 left e c.iter-id-items.ensures.sorted all in
    let same = ap₂ (λ s l. (e.0, record { stamp = s; label = l })) c.stamp-stamp.ensures
    c.held_label-label.ensures.texts in (
      inv.0 ++ e ∷ [],
      subst
          (λ (x : Entry). g.S.CellSink.Holds c.args.start.now c.see.new.self (inv.0 ++ x ∷ []))
          same
          (c.in_ok-see.ensures c.args.start.now inv.0 inv.1 above),
      append_assoc inv.0 (e ∷ []) left ∙ all,
    )
