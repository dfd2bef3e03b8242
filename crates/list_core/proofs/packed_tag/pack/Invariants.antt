use Rattle.std.proofs.Common.{◌≡◌, ◌≤◌, drop, length}
use Rattle.list_core.specs.inner.PackedTag.{packed}
use Rattle.list_core.proofs.packed_tag.pack.Given as goal

abbrev pub invariant-loop-place : goal.invariant-loop-place
invariant-loop-place l =
    (l.number ≡ packed (drop l.place l.subtag)) × (l.place ≤ length l.subtag)
