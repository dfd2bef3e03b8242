use Rattle.list_core.specs.Buckets.{AreLinksFrom}
use Rattle.list_core.proofs.buckets.link_buckets.Given as goal

abbrev pub invariant-loop-place : goal.invariant-loop-place
invariant-loop-place l = AreLinksFrom l.buckets l.numbers l.place l.first.items l.next.items
