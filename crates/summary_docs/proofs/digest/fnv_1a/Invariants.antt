use Rattle.std.proofs.Common.{◌≡◌, fold, take}
use Rattle.summary_docs.specs.Digest.{fnv_step, offset_basis}
use Rattle.summary_docs.proofs.digest.fnv_1a.Given as goal

-- the hash of the bytes so far
abbrev pub invariant-loop-byte : goal.invariant-loop-byte
invariant-loop-byte l = l.hash ≡ fold fnv_step offset_basis (take l.byte-index l.bytes)
