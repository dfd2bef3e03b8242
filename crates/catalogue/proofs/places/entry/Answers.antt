use Rattle.std.proofs.Common.{◌≡◌, ◌+◌, ◌-◌, ◌<◌, length, sym, ap, subst, ◌∙◌, arith}
use Rattle.std.specs.Prelude.{slice_get}
use Rattle.std.specs.Option.{option_map}
use Rattle.cell_core.specs.Iter.{entries_left}
use Rattle.catalogue.specs.CatalogueFlat.{flat}
use Rattle.catalogue.specs.CatalogueNested.{Nested}
use Rattle.catalogue.proofs.PlacesNestedLemmas.{with_outer, place_within, place_behind}
use Rattle.catalogue.proofs.places.entry.Goals as goal

pub returns-in-Some-nth : goal.returns-in-Some-nth
returns-in-Some-nth c =
    let id = c.in-Some.id.now in
    let cells = c.in-Some.cells.now in
    let left = c.loop-id.left in
    let h =
    subst (λ (es : Nested). slice_get (flat es) left
    ≡ slice_get (flat c.args.map.now) c.args.place) c.in-Some.ensures.steps
    c.loop-id.invariant in
    let lt : left < length cells = omega (arith, c.if-left-count.true, c.len-count.ensures.len) in
    ap (option_map (with_outer id)) c.in-Some-nth.ensures.entry
    ∙ sym (place_within id cells (entries_left c.next.new.self) left lt) ∙ h

pub returns-in-None-nth : goal.returns-in-None-nth
returns-in-None-nth c =
    let id = c.in-Some.id.now in
    let cells = c.in-Some.cells.now in
    let left = c.loop-id.left in
    let h =
    subst (λ (es : Nested). slice_get (flat es) left
    ≡ slice_get (flat c.args.map.now) c.args.place) c.in-Some.ensures.steps
    c.loop-id.invariant in
    let lt : left < length cells = omega (arith, c.if-left-count.true, c.len-count.ensures.len) in
    ap (option_map (with_outer id)) c.in-None-nth.ensures.entry
    ∙ sym (place_within id cells (entries_left c.next.new.self) left lt) ∙ h

pub loop-id-preserved : goal.loop-id-preserved
loop-id-preserved c =
    let id = c.in-Some.id.now in
    let cells = c.in-Some.cells.now in
    let left = c.loop-id.left in
    let h =
    subst (λ (es : Nested). slice_get (flat es) left
    ≡ slice_get (flat c.args.map.now) c.args.place) c.in-Some.ensures.steps
    c.loop-id.invariant in
    let behind : length cells + (left - c.len-count.result) ≡ left =
    omega (arith, c.if-left-count.false, c.len-count.ensures.len) in
    sym (place_behind id cells (entries_left c.next.new.self) left (left - c.len-count.result)
    behind) ∙ h
