use Rattle.std.proofs.Common.{◌+◌, sym, ◌∙◌, ap, subst, arith}
use Rattle.cell_core.specs.Iter.{entries_left}
use Rattle.cell_core.specs.Entry.{EntryKey, text_cmp}
use Rattle.cell_core.proofs.KeyedPlacesLemmas.{place_of-le}
use Rattle.catalogue.proofs.PlacesNestedLemmas.{IsInFront, in_front_less, in_front_same}
use Rattle.catalogue.proofs.PlacesNestedLemmas.{in_front_next}
use Rattle.catalogue.proofs.PlacesNestedLemmas.{in_front_fits}
use Rattle.catalogue.proofs.places.place.Goals as goal

pub returns-in-Less : goal.returns-in-Less
returns-in-Less c =
    let key : EntryKey = (c.args.id.now, c.args.lang.now) in
    let h =
    subst (λ left. IsInFront c.args.map.now left key c.loop-key.total) c.in-Some.ensures.steps
    c.loop-key.invariant in
    in_front_less c.args.map.now (entries_left c.next.new.self) key c.in-Some.key.now
    c.in-Some.cells.now c.loop-key.total h (sym c.cmp.ensures ∙ c.in-Less.is)

-- The place fits: the cells of the messages so far are all before the end, and cells are countable.
pub overflow_add-result : goal.overflow_add-result
overflow_add-result c =
    let key : EntryKey = (c.args.id.now, c.args.lang.now) in
    let h =
    subst (λ left. IsInFront c.args.map.now left key c.loop-key.total) c.in-Some.ensures.steps
    c.loop-key.invariant in
    let fits =
    in_front_fits c.args.map.now (entries_left c.next.new.self) key c.in-Some.key.now
    c.in-Some.cells.now c.loop-key.total h c.requires.fits in
    omega (
      arith,
      fits,
      c.place_in.ensures,
      place_of-le text_cmp c.args.lang.now
          c.in-Some.cells.now,
    )

pub returns-in-Equal : goal.returns-in-Equal
returns-in-Equal c =
    let key : EntryKey = (c.args.id.now, c.args.lang.now) in
    let h =
    subst (λ left. IsInFront c.args.map.now left key c.loop-key.total) c.in-Some.ensures.steps
    c.loop-key.invariant in
    ap (λ n. c.loop-key.total + n) c.place_in.ensures
    ∙ in_front_same c.args.map.now (entries_left c.next.new.self) key c.in-Some.key.now
    c.in-Some.cells.now c.loop-key.total h (sym c.cmp.ensures ∙ c.in-Equal.is)

pub overflow_add-total : goal.overflow_add-total
overflow_add-total c =
    let key : EntryKey = (c.args.id.now, c.args.lang.now) in
    let h =
    subst (λ left. IsInFront c.args.map.now left key c.loop-key.total) c.in-Some.ensures.steps
    c.loop-key.invariant in
    let fits =
    in_front_fits c.args.map.now (entries_left c.next.new.self) key c.in-Some.key.now
    c.in-Some.cells.now c.loop-key.total h c.requires.fits in
    omega (arith, fits, c.len.ensures.len)

pub loop-key-preserved : goal.loop-key-preserved
loop-key-preserved c =
    let key : EntryKey = (c.args.id.now, c.args.lang.now) in
    let h =
    subst (λ left. IsInFront c.args.map.now left key c.loop-key.total) c.in-Some.ensures.steps
    c.loop-key.invariant in
    subst (λ n. IsInFront c.args.map.now (entries_left c.next.new.self) key (c.loop-key.total + n))
    (sym c.len.ensures.len)
    (in_front_next c.args.map.now (entries_left c.next.new.self) key c.in-Some.key.now
    c.in-Some.cells.now c.loop-key.total h (sym c.cmp.ensures ∙ c.in-Greater.is))
