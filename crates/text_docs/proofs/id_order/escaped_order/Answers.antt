use Rattle.std.proofs.Common.{◌∙◌, sym}
use Rattle.text_docs.proofs.IdOrderLemmas.{both_end, first_decides, goes_on, one_byte_more}
use Rattle.text_docs.proofs.IdOrderLemmas.{one_ends}
use Rattle.text_docs.proofs.id_order.escaped_order.Goals as goal

-- both are ordered as what comes after the byte that they have in common
pub loop-byte-preserved : goal.loop-byte-preserved
loop-byte-preserved c = λ text is simple.
    let so_far = c.loop-byte.invariant text is simple in
    one_byte_more text c.args.id.now c.loop-byte.right.now c.in-Some-split.others.now so_far.0
    c.in-Some.rest.now c.in-Some.byte c.in-Some-split.other so_far.3
    c.if-byte-other.false c.in-Some-split.ensures
    (c.in-Some.ensures.is so_far.0 so_far.1 so_far.2)

-- the text goes on where the other one ends
pub returns-in_default-split : goal.returns-in_default-split
returns-in_default-split c = λ text is simple.
    let so_far = c.loop-byte.invariant text is simple in
    goes_on text c.args.id.now c.loop-byte.right.now so_far.0 c.in-Some.rest.now c.in-Some.byte
    so_far.3 (c.in-Some.ensures.is so_far.0 so_far.1 so_far.2) c.in_default-split.ensures

-- the first bytes that differ decide
pub returns-then-byte-other : goal.returns-then-byte-other
returns-then-byte-other c = λ text is simple.
    let so_far = c.loop-byte.invariant text is simple in
    first_decides text c.args.id.now c.loop-byte.right.now c.in-Some-split.others.now so_far.0
    c.in-Some.rest.now c.in-Some.byte c.in-Some-split.other c.cmp.result so_far.3
    (c.in-Some.ensures.is so_far.0 so_far.1 so_far.2) c.in-Some-split.ensures
    c.if-byte-other.true c.cmp.ensures

-- both end
pub returns-then-is_empty : goal.returns-then-is_empty
returns-then-is_empty c = λ text is simple.
    let so_far = c.loop-byte.invariant text is simple in
    both_end text c.args.id.now c.loop-byte.right.now so_far.0 so_far.3
    (c.in_default.ensures.is so_far.0 so_far.1 so_far.2)
    (sym c.is_empty.ensures ∙ c.if-is_empty.true)

-- the text ends first
pub returns-else-is_empty : goal.returns-else-is_empty
returns-else-is_empty c = λ text is simple.
    let so_far = c.loop-byte.invariant text is simple in
    one_ends text c.args.id.now c.loop-byte.right.now so_far.0 so_far.3
    (c.in_default.ensures.is so_far.0 so_far.1 so_far.2)
    (sym c.is_empty.ensures ∙ c.if-is_empty.false)
