use Rattle.std.proofs.Common.{rules, ◌≡◌, ◌<◌, ◌-◌, ◌++◌, length, take, arith, ap}
use Rattle.list_core.specs.Field.{HasElement, RefusesField}
use Rattle.list_core.specs.inner.Field.{BeginsOverlong, IsFirstPiece}
use Rattle.list_core.specs.declared.fault.NegoFault.TheVariants.{FieldMalformed}
use Rattle.list_core.proofs.FieldSeparatorLemmas.{BeginsElement, walked_from, begins_element}
use Rattle.list_core.proofs.FieldSeparatorLemmas.{element_read}
use Rattle.list_core.proofs.FieldSeparatorLemmas.{element_refused, overlong_refused, element_passed}
use Rattle.list_core.proofs.FieldSeparatorLemmas.{element_fits, cut_shorter, no_more, rest_fits}
use Rattle.list_core.proofs.FieldSeparatorLemmas.{walked_to_end}
use Rattle.list_core.proofs.FieldWalk.{no_bytes}
use Rattle.list_core.proofs.FieldRangeEndLemmas.{end_overlong, piece_begun, whole_piece}
use Rattle.list_core.proofs.field.read_items.Goals.{in-Some+in_ok-push_item-in-Some}
use Rattle.list_core.proofs.field.read_items.Goals.{in-None+in_ok-pass_over-in-None}
use Rattle.list_core.proofs.field.read_items.Goals as goal

pub loop-rest-init : goal.loop-rest-init
loop-rest-init c = (
  omega arith,
  rw (c.new-items.ensures.items, c.skip_separators-rest.ensures)
      (walked_from c.args.scheme c.args.malformed c.args.field.now),
  rw c.skip_separators-rest.ensures
      (begins_element c.args.field.now),
)

pub returns-in_err-item : goal.returns-in_err-item
returns-in_err-item c =
    let some : 0 < length c.loop-rest.rest.now = search rules in
    let first : IsFirstPiece c.loop-rest.rest.now
    (take c.range_end-end.result c.loop-rest.rest.now ++ c.cut_piece.result.0.now)
    c.cut_piece.result.1.now =
    whole_piece c.loop-rest.rest.now c.cut_piece.result.0.now c.cut_piece.result.1.now
    c.range_end-end.result c.range_end-end.ensures c.cut_piece.ensures in
    let element : HasElement c.args.scheme c.args.malformed c.args.field.now =
    element_fits c.args.scheme c.args.malformed c.args.field.now _ c.loop-rest.rest.now _ _
    c.loop-rest.invariant.1 c.loop-rest.invariant.2 some first
    c.in_err-item.ensures.1 in
    search rules

pub returns-in_err-push_item-in-Some : goal.returns-in_err-push_item-in-Some
returns-in_err-push_item-in-Some c =
    let some : 0 < length c.loop-rest.rest.now = search rules in
    let first : IsFirstPiece c.loop-rest.rest.now
    (take c.range_end-end.result c.loop-rest.rest.now ++ c.cut_piece.result.0.now)
    c.cut_piece.result.1.now =
    whole_piece c.loop-rest.rest.now c.cut_piece.result.0.now c.cut_piece.result.1.now
    c.range_end-end.result c.range_end-end.ensures c.cut_piece.ensures in
    let element : HasElement c.args.scheme c.args.malformed c.args.field.now =
    element_fits c.args.scheme c.args.malformed c.args.field.now _ c.loop-rest.rest.now _ _
    c.loop-rest.invariant.1 c.loop-rest.invariant.2 some first
    (c.in-Some.item, rw c.in-Some.is at c.in_ok-item.ensures) in
    search rules

pub read_item-requires : goal.read_item-requires
read_item-requires c =
    piece_begun c.loop-rest.rest.now c.cut_piece.result.0.now c.cut_piece.result.1.now
    c.range_end-end.result c.range_end-end.ensures c.cut_piece.ensures

pub overflow_sub-offset : goal.overflow_sub-offset
overflow_sub-offset c = rest_fits _ _ _ _ _ c.loop-rest.invariant.1

pub loop-rest-smaller : goal.loop-rest-smaller
loop-rest-smaller c =
    let some : 0 < length c.loop-rest.rest.now = search rules in
    let first : IsFirstPiece c.loop-rest.rest.now
    (take c.range_end-end.result c.loop-rest.rest.now ++ c.cut_piece.result.0.now)
    c.cut_piece.result.1.now =
    whole_piece c.loop-rest.rest.now c.cut_piece.result.0.now c.cut_piece.result.1.now
    c.range_end-end.result c.range_end-end.ensures c.cut_piece.ensures in
    let shorter = cut_shorter _ _ _ first some in
    let fewer = no_more c.cut_piece.result.1.now in
    let size : length c.skip_separators-rest-in-loop-rest.result.now ≡ _ =
    ap length c.skip_separators-rest-in-loop-rest.ensures in
    omega arith

pub returns-in_err-pass_over : goal.returns-in_err-pass_over
returns-in_err-pass_over c =
    let some : 0 < length c.loop-rest.rest.now = search rules in
    let over : 255 < c.range_end-end.result = omega arith in
    let long : BeginsOverlong c.loop-rest.rest.now =
    end_overlong c.loop-rest.rest.now c.range_end-end.result c.range_end-end.ensures over in
    let refused : RefusesField c.args.scheme c.args.malformed c.args.field.now
    (FieldMalformed (length c.args.field.now - length c.loop-rest.rest.now)) =
    overlong_refused c.args.scheme c.args.malformed c.args.field.now _ c.loop-rest.rest.now
    c.in_err-pass_over.ensures.0 c.loop-rest.invariant.0 c.loop-rest.invariant.1
    c.loop-rest.invariant.2 some long in
    search rules

pub returns-in_err-pass_over-in-None : goal.returns-in_err-pass_over-in-None
returns-in_err-pass_over-in-None c =
    let some : 0 < length c.loop-rest.rest.now = search rules in
    let first : IsFirstPiece c.loop-rest.rest.now
    (take c.range_end-end.result c.loop-rest.rest.now ++ c.cut_piece.result.0.now)
    c.cut_piece.result.1.now =
    whole_piece c.loop-rest.rest.now c.cut_piece.result.0.now c.cut_piece.result.1.now
    c.range_end-end.result c.range_end-end.ensures c.cut_piece.ensures in
    let none = rw c.in-None.is at c.in_ok-item.ensures in
    let refused : RefusesField c.args.scheme c.args.malformed c.args.field.now
    (FieldMalformed (length c.args.field.now - length c.loop-rest.rest.now)) =
    element_refused c.args.scheme c.args.malformed c.args.field.now _ c.loop-rest.rest.now _ _
    c.in_err-pass_over-in-None.ensures.0 c.loop-rest.invariant.0 c.loop-rest.invariant.1
    c.loop-rest.invariant.2 some first none in
    search rules

-- The items are those of the pieces before the rest: an element's item is pushed last, a piece that
-- gives none is skipped, and what the separators skipped gives none, so an element is next.
pub loop-rest-preserved : goal.loop-rest-preserved
loop-rest-preserved c =
    let some : 0 < length c.loop-rest.rest.now = search rules in
    let first : IsFirstPiece c.loop-rest.rest.now
    (take c.range_end-end.result c.loop-rest.rest.now ++ c.cut_piece.result.0.now)
    c.cut_piece.result.1.now =
    whole_piece c.loop-rest.rest.now c.cut_piece.result.0.now c.cut_piece.result.1.now
    c.range_end-end.result c.range_end-end.ensures c.cut_piece.ensures in
    let begins : BeginsElement c.skip_separators-rest-in-loop-rest.result.now =
    rw c.skip_separators-rest-in-loop-rest.ensures (begins_element c.cut_piece.result.1.now) in
    elim c.match-branch-3.branch [
      | in-Some+in_ok-push_item-in-Some w ↦ (
        c.loop-rest.invariant.0,
        rw (
          w.items-is,
          w.in_ok-push_item-in-Some.ensures,
          c.skip_separators-rest-in-loop-rest.ensures,
        )
            (element_read c.args.scheme c.args.malformed c.args.field.now c.loop-rest.items.items
            w.in-Some.item c.loop-rest.rest.now _ _ c.loop-rest.invariant.1 c.loop-rest.invariant.2
            some first (rw w.in-Some.is at c.in_ok-item.ensures)),
        begins,
      )
      | in-None+in_ok-pass_over-in-None w ↦ (
        c.loop-rest.invariant.0,
        rw (w.items-is, c.skip_separators-rest-in-loop-rest.ensures)
            (element_passed c.args.scheme c.args.malformed c.args.field.now c.loop-rest.items.items
            c.loop-rest.rest.now _ _ w.in_ok-pass_over-in-None.ensures c.loop-rest.invariant.1
            c.loop-rest.invariant.2 some first
            (rw w.in-None.is at c.in_ok-item.ensures)),
        begins,
      )
    ]

pub returns : goal.returns
returns c =
    let none : length c.loop-rest.rest.now ≡ 0 = search rules in
    (c.loop-rest.invariant.0, walked_to_end _ _ _ _ _ c.loop-rest.invariant.1 (no_bytes _ none))
