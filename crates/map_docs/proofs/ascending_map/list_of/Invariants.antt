use Rattle.std.proofs.Common.{◌≡◌, ◌++◌}
use Rattle.map_docs.proofs.ascending_map.list_of.Given as goal

-- the list and what is left are the entries
abbrev pub invariant-loop-entry : goal.invariant-loop-entry
invariant-loop-entry g l = l.list.items ++ l.entry-iterator ≡ l.fn.tree.entries
