use Rattle.std.proofs.Common.{◌≡◌, ◌≤◌, ◌-◌, vec_len, take}
use Rattle.json_docs.proofs.stream.sources.make_room.Given as goal

-- the filled part stays, and no more zeros than wanted are there
abbrev pub invariant-loop-buffer : goal.invariant-loop-buffer
invariant-loop-buffer l = record {
  within : l.filled ≤ vec_len l.buffer;
  most : vec_len l.buffer ≤ l.wanted;
  front : take l.filled l.buffer.items ≡ take l.filled l.fn.buffer.items;
}

abbrev pub decreases-loop-buffer : goal.decreases-loop-buffer
decreases-loop-buffer l = l.wanted - vec_len l.buffer
