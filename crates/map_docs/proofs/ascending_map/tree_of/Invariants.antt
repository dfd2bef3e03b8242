use Rattle.std.proofs.Common.{◌≡◌, ◌++◌}
use Rattle.std.specs.Vec.Iter.{into_iter_items}
use Rattle.map_docs.proofs.ascending_map.tree_of.Given as goal

-- the tree and what is left are the entries
abbrev pub invariant-loop-key : goal.invariant-loop-key
invariant-loop-key g l = l.found.entries ++ into_iter_items l.key-iterator ≡ l.fn.list.items
