use Rattle.std.proofs.Common.{sym, ◌∙◌, ap, arith, true≢false}
use Rattle.std.specs.Ordering.{is_lt, is_eq}
use Rattle.lang_core.proofs.Basics.{less_of as less_from}
use Rattle.cell_core.proofs.StampLemmas.{next_of_none, next_now, next_at_last, next_count}
use Rattle.cell_core.proofs.StampLemmas.{next_later, IsFull}
use Rattle.cell_core.proofs.stamp.Stamp.next.Goals as goal
use Rattle.cell_core.proofs.stamp.Stamp.next.Goals.{else-is_eq-via-then-is_eq+else-last-lt4294967295}
use Rattle.cell_core.proofs.stamp.Stamp.next.Goals.{else-is_eq-via-else-is_eq}
use Rattle.cell_core.proofs.Basics.{tied_order as equal_from}

pub returns-in_default : goal.returns-in_default
returns-in_default c =
    rw (c.in_default.is, c.first_at.ensures) (next_of_none c.args.now c.args.site c.ranges.now.fits)

pub returns-then-last-now : goal.returns-then-last-now
returns-then-last-now c =
    rw (c.in-Some.is, c.first_at-then-last-now.ensures)
    (next_now c.in-Some.last c.args.now c.args.site c.if-last-now.true c.ranges.now.fits)

pub returns-then-is_lt : goal.returns-then-is_lt
returns-then-is_lt c =
    let less = less_from c.cmp-order.result (sym c.is_lt.ensures ∙ c.if-is_lt.true) in
    rw (c.in-Some.is, c.first_at-then-is_lt.ensures)
    (next_at_last c.in-Some.last c.args.now c.args.site c.if-last-now.false (omega arith)
    (sym c.cmp-order.ensures ∙ less))

pub returns-then-last-lt4294967295 : goal.returns-then-last-lt4294967295
returns-then-last-lt4294967295 c =
    let same = equal_from c.cmp-order.result (sym c.is_eq.ensures ∙ c.if-is_eq.true) in
    rw c.in-Some.is
    (next_count c.in-Some.last c.args.now c.args.site c.if-last-now.false (omega arith)
    (omega arith) (sym c.cmp-order.ensures ∙ same))

pub returns : goal.returns
returns c =
    let order = c.cmp-order.ensures in
    let full : IsFull c.in-Some.last c.args.now c.args.site = (
      ap is_lt (sym order) ∙ sym c.is_lt.ensures ∙ c.if-is_lt.false,
      λ d same less fits. elim c.else-is_eq.branch as (λ _. ⊥) [
        | else-is_eq-via-then-is_eq+else-last-lt4294967295 w ↦
            absurd (omega (arith, w.if-last-lt4294967295.false))
        | else-is_eq-via-else-is_eq w ↦
            true≢false (sym (c.is_eq.ensures ∙ ap is_eq (order ∙ same)) ∙ w.if-is_eq.false)
      ],
    ) in
    rw (c.in-Some.is, c.first_at-2.ensures)
    (next_later c.in-Some.last c.args.now c.args.site c.if-last-now.false (omega arith) full)
