use Rattle.std.proofs.Common.{◌≡◌, take}
use Rattle.cell_core.proofs.chunks.copy_pairs.Given as goal

abbrev pub invariant-loop-key : goal.invariant-loop-key
invariant-loop-key g l = l.copied.items ≡ take l.key-index l.pairs
