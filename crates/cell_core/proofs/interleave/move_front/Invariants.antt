use Rattle.std.proofs.Common.{◌≡◌, ◌+◌, ◌++◌, vec_len, vec_capacity}
use Rattle.std.specs.Vec.Iter.{into_iter_items, into_iter_len}
use Rattle.cell_core.proofs.interleave.move_front.Given as goal

abbrev pub invariant-loop-moved : goal.invariant-loop-moved
invariant-loop-moved g l = record {
  items : l.items.items ++ into_iter_items l.tail ≡ l.fn.items.items ++ into_iter_items l.fn.tail;
  len : vec_len l.items ≡ vec_len l.fn.items + l.moved;
  capacity : vec_capacity l.items ≡ vec_capacity l.fn.items;
  left : into_iter_len l.tail + l.moved ≡ into_iter_len l.fn.tail;
}
