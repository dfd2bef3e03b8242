use Rattle.std.proofs.Common.{◌≡◌, ◌≤◌, ◌+◌, ◌-◌, vec_len, take, false}
use Rattle.std.specs.Io.KnownBytes.{Consumes}
use Rattle.json_docs.proofs.stream.sources.read_all.Given as goal

-- the front of the buffer is what the source gave so far
abbrev pub invariant-loop-filled : goal.invariant-loop-filled
invariant-loop-filled g l = record {
  room : vec_len l.buffer ≤ 67108864 + 1;
  within : l.filled ≤ vec_len l.buffer;
  given : Consumes (g.S.Source.remaining l.fn.reader) (g.S.Source.remaining l.reader)
      (take l.filled l.buffer.items);
  unfailed : g.S.Source.failed l.reader ≡ false;
}

abbrev pub decreases-loop-filled : goal.decreases-loop-filled
decreases-loop-filled g l = (67108864 + 1) - l.filled
