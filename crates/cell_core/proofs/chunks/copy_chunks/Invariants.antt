use Rattle.std.proofs.Common.{◌≡◌, take}
use Rattle.cell_core.specs.Chunks.{all_of, AllFilled}
use Rattle.cell_core.proofs.chunks.copy_chunks.Given as goal

abbrev pub invariant-loop-chunk : goal.invariant-loop-chunk
invariant-loop-chunk g l = record {
  same : all_of l.copied.items ≡ all_of (take l.chunk-index l.chunks);
  filled : AllFilled l.copied.items;
}
