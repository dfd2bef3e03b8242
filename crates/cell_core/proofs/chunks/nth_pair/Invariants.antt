use Rattle.std.proofs.Common.{◌≡◌, drop, slice_get}
use Rattle.cell_core.specs.Chunks.{all_of}
use Rattle.cell_core.proofs.chunks.nth_pair.Given as goal

abbrev pub invariant-loop-chunk : goal.invariant-loop-chunk
invariant-loop-chunk g l =
    slice_get (all_of (drop l.chunk-index l.chunks)) l.left ≡ slice_get (all_of l.chunks) l.place
