use Rattle.std.proofs.Common.{◌≡◌, length, take}
use Rattle.std.specs.Prelude.{map}
use Rattle.list_core.specs.HashedRanges.{bucket_of}
use Rattle.list_core.proofs.hashed_ranges.bucket_numbers.Given as goal

abbrev pub invariant-loop-item : goal.invariant-loop-item
invariant-loop-item l =
    l.numbers.items ≡ map (λ i. bucket_of (length l.items) i.range) (take l.item-index l.items)
