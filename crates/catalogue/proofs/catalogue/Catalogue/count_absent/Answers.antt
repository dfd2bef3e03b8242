use Rattle.std.proofs.Common.{◌≡◌, ◌+◌, not, cond, length, ◌∙◌, ap, subst, arith}
use Rattle.catalogue.specs.Cells.{cells_left}
use Rattle.catalogue.specs.inner.CatalogueCounts.{count_absent}
use Rattle.catalogue.specs.Entries.{Entry, Entries}
use Rattle.catalogue.proofs.CatalogueJoinedCountsLemmas.{absent_next}
use Rattle.catalogue.proofs.catalogue.Catalogue.count_absent.Goals as goal

-- The same where the key is there: it counts nothing.
pub loop-id-preserved-then-is_some : goal.loop-id-preserved-then-is_some
loop-id-preserved-then-is_some c =
    let own = c.args.self.now in
    let e : Entry = ((c.in-Some.id.now, c.in-Some.lang.now), c.in-Some.field-0-2.now) in
    let left = cells_left c.next.new.self in
    let h =
    subst (λ (es : Entries). c.loop-id.count + count_absent c.args.self.now es
    ≡ count_absent c.args.self.now c.args.other.now) c.in-Some.ensures.steps
    c.loop-id.invariant.counted in
    let next =
    absent_next own e left c.cell.result c.is_some.result c.cell.ensures c.is_some.ensures
    ∙ ap (λ b. cond (not b) (count_absent c.args.self.now (cells_left c.next.new.self) + 1)
    (count_absent c.args.self.now (cells_left c.next.new.self))) c.if-is_some.true in
    record {
      counted = omega (arith, h, next);
      within = omega (arith, c.loop-id.invariant.within, ap length c.in-Some.ensures.steps);
    }

pub overflow_add-count : goal.overflow_add-count
overflow_add-count c =
    omega (
      arith,
      c.loop-id.invariant.within,
      ap length c.in-Some.ensures.steps,
      c.len-cells.ensures.len,
      c.len-cells.type_inv,
    )

-- The count, with the absent ones among the cells left, is that of all: this key is absent, so it
-- was counted.
pub loop-id-preserved : goal.loop-id-preserved
loop-id-preserved c =
    let own = c.args.self.now in
    let e : Entry = ((c.in-Some.id.now, c.in-Some.lang.now), c.in-Some.field-0-2.now) in
    let left = cells_left c.next.new.self in
    let h =
    subst (λ (es : Entries). c.loop-id.count + count_absent c.args.self.now es
    ≡ count_absent c.args.self.now c.args.other.now) c.in-Some.ensures.steps
    c.loop-id.invariant.counted in
    let next =
    absent_next own e left c.cell.result c.is_some.result c.cell.ensures c.is_some.ensures
    ∙ ap (λ b. cond (not b) (count_absent c.args.self.now (cells_left c.next.new.self) + 1)
    (count_absent c.args.self.now (cells_left c.next.new.self))) c.if-is_some.false in
    record {
      counted = omega (arith, h, next);
      within = omega (arith, c.loop-id.invariant.within, ap length c.in-Some.ensures.steps);
    }
