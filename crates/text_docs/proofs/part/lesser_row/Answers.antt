use Rattle.std.proofs.Common.{◌∙◌, arith, sym}
use Rattle.text_docs.proofs.PartLemmas.{begins_at_lesser}
use Rattle.text_docs.proofs.part.lesser_row.Goals as goal

-- the row of a lesser id is before all rows of the message
pub returns-then-is_lt : goal.returns-then-is_lt
returns-then-is_lt c = (
  omega (arith, c.in_ok-row.ensures.0),
  c.if-start-end.true,
  begins_at_lesser c.args.text.now c.in_ok-row.row.id.now c.args.id.now c.in_ok-row.row.bracket
      c.order_of.result c.in_ok-row.ensures.2 c.in_ok-row.ensures.3 c.order_of.ensures
      (sym c.is_lt.ensures ∙ c.if-is_lt.true),
)
