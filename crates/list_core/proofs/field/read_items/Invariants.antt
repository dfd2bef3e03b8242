use Rattle.std.proofs.Common.{◌≤◌, length}
use Rattle.list_core.proofs.FieldSeparatorLemmas.{BeginsElement, IsWalkedTo}
use Rattle.list_core.proofs.field.read_items.Given as goal

abbrev pub invariant-loop-rest : goal.invariant-loop-rest
invariant-loop-rest l =
    (length l.field ≤ 65535) × IsWalkedTo l.scheme l.malformed l.field l.items.items l.rest
    × BeginsElement l.rest

abbrev pub decreases-loop-rest : goal.decreases-loop-rest
decreases-loop-rest l = length l.rest
