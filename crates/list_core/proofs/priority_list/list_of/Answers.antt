use Rattle.std.proofs.Common.{arith}
use Rattle.std.proofs.lemmas.Grind.{common_steps}
use Rattle.list_core.proofs.priority_list.list_of.Goals as goal

pub invariant_of-result-2 : goal.invariant_of-result-2
invariant_of-result-2 c = (
  rw c.deref-2.ensures.value at c.in_ok-order.ensures,
  rw c.deref-3.ensures.value at c.in_ok-index.ensures,
  rw (c.deref-4.ensures.value, c.deref-5.ensures.value) at c.in_ok-firsts.ensures,
  grind (arith, common_steps),
  c.requires.one_kind,
  c.requires.small,
)
