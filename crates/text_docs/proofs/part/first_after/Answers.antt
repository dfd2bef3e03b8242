use Rattle.std.proofs.Common.{◌∙◌, sym}
use Rattle.text_docs.proofs.PartLemmas.{ends_at_greater}
use Rattle.text_docs.proofs.part.first_after.Goals as goal

-- the row of a greater id is after all rows of the message
pub returns-then-is_gt-clause-ends : goal.returns-then-is_gt-clause-ends
returns-then-is_gt-clause-ends c =
    ends_at_greater c.args.text.now c.in-Some.row.id.now c.args.id.now c.in-Some.row.bracket
    c.order_of.result c.in-Some.ensures.2 c.in-Some.ensures.3 c.order_of.ensures
    (sym c.is_gt.ensures ∙ c.if-is_gt.true)
