use Rattle.std.proofs.Common.{take}
use Rattle.site_docs.specs.inner.StampsDraft.{HoldsStamps}
use Rattle.site_docs.proofs.document.writing.stamps_of.Given as goal

-- the stamps so far are written
abbrev pub invariant-loop-place : goal.invariant-loop-place
invariant-loop-place l = HoldsStamps l.draft l.fn.summary.owner (take l.place l.fn.summary.stamps)
