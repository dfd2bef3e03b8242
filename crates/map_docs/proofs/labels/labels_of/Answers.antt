use Rattle.std.proofs.Common.{◌∙◌, ◌+◌, List, [], ◌∷◌, ◌++◌, String, Global, Option, ap, refl}
use Rattle.std.proofs.Common.{string_bytes, subst, sym, length-append}
use Rattle.std.specs.Vec.Iter.{into_iter_items}
use Rattle.std.proofs.lemmas.Result.{err_from_is_err_and}
use Rattle.json_docs.specs.FaultChecks.{AllPass, FirstFails}
use Rattle.map_docs.specs.LabelsChecks.{members_checks}
use Rattle.map_docs.specs.MembersRows.{Rows}
use Rattle.map_docs.specs.inner.MembersRowsSeen.{AreSorted, HeldKeys, keys_in_seen, rows_seen}
use Rattle.map_docs.specs.Maps.{Labelled}
use Rattle.map_docs.proofs.MapsLabelsLemmas.{HoldsRows, HoldsRows-next, HoldsRows-none}
use Rattle.map_docs.proofs.MapsLabelsLemmas.{first_lesser, else_by, one_further, rows_fail}
use Rattle.map_docs.proofs.MapsLabelsLemmas.{rows_pass, rows_seen_after, same_length}
use Rattle.map_docs.proofs.labels.labels_of.Goals as goal

pub loop-name-init : goal.loop-name-init
loop-name-init c =
    let left = into_iter_items c.into_iter-name-iterator.result in
    let gives = c.into_iter-name-iterator.ensures.into_iter_gives in
    let ascending = subst AreSorted (sym gives.0) c.requires in (
      [],
      sym gives.0,
      refl,
      tt,
      subst (λ (labels : List Labelled). HoldsRows [] labels left) (sym c.in_ok-maps.ensures)
          (HoldsRows-none left ascending),
    )

pub add_row-requires-clause-lesser : goal.add_row-requires-clause-lesser
add_row-requires-clause-lesser c =
    first_lesser (rows_seen c.loop-name.invariant.0) c.loop-name.maps
    (c.in-Some.name, c.in-Some.keys)
    (into_iter_items c.next.new.self)
    (subst (λ (es : List (String Global × Option HeldKeys)).
    HoldsRows (rows_seen c.loop-name.invariant.0) c.loop-name.maps es) c.in-Some.ensures.steps.0
    c.loop-name.invariant.4)

-- This row fails a test, and the rows before it passed, so that test is the first of all that
-- fails; or no memory.
pub returns-in_err-add_row : goal.returns-in_err-add_row
returns-in_err-add_row c =
    let inv = c.loop-name.invariant in
    let front = inv.0 in
    let left = into_iter_items c.next.new.self in
    let e = c.in_err-add_row.field-0.0 in
    let all =
    ap rows_seen (inv.1 ∙ ap (λ t. front ++ t) c.in-Some.ensures.steps.0)
    ∙ rows_seen_after front ((c.in-Some.name, c.in-Some.keys) ∷ left) in
    let p =
    err_from_is_err_and c.from_residual-in_err-add_row.result
    c.from_residual-in_err-add_row.ensures.1 in
    rw (p.1, p.2)
    (else_by c.in_err-add_row.ensures.err
    (λ fails. subst (λ (rs : Rows). FirstFails (members_checks 0 rs) e) (sym all)
    (rows_fail (rows_seen front) (string_bytes c.in-Some.name, keys_in_seen c.in-Some.keys)
    (rows_seen left) c.loop-name.row e (inv.2 ∙ same_length front) inv.3 fails)))

-- The rows so far pass, and their labels are held: this row passed too, and its labels are among
-- those held, which ascend.
pub loop-name-preserved : goal.loop-name-preserved
loop-name-preserved c =
    let inv = c.loop-name.invariant in
    let front = inv.0 in
    let left = into_iter_items c.next.new.self in
    let took = c.in_ok-add_row.ensures.ok in
    let pushed = rows_seen_after front ((c.in-Some.name, c.in-Some.keys) ∷ []) in
    let before =
    subst (λ (es : List (String Global × Option HeldKeys)).
    HoldsRows (rows_seen front) c.loop-name.maps es) c.in-Some.ensures.steps.0 inv.4 in
    let holds =
    HoldsRows-next (rows_seen front) c.loop-name.maps c.add_row.new.maps
    (c.in-Some.name, c.in-Some.keys) left before took.1 in (
      front ++ (c.in-Some.name, c.in-Some.keys) ∷ [],
      one_further c.args.rows.items front (c.in-Some.name, c.in-Some.keys)
          (into_iter_items c.loop-name.name-iterator)
          left inv.1 c.in-Some.ensures.steps.0,
      ap (λ n. n + 1) inv.2 ∙ sym (length-append front ((c.in-Some.name, c.in-Some.keys) ∷ [])),
      subst (λ (rs : Rows). AllPass (members_checks 0 rs)) (sym pushed)
          (rows_pass (rows_seen front) (string_bytes c.in-Some.name, keys_in_seen c.in-Some.keys)
          c.loop-name.row (inv.2 ∙ same_length front) inv.3 took.0),
      subst (λ (rs : Rows). HoldsRows rs c.add_row.new.maps left) (sym pushed) holds,
    )
