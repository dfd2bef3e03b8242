use Rattle.std.proofs.Common.{◌<◌, ◌≤◌, length, get_or, take}
use Rattle.cell_core.specs.inner.KeyedPlaces.{place_of}
use Rattle.cell_core.specs.inner.InterleaveMissing.{IsCommonJoined}
use Rattle.cell_core.proofs.pairs.join_common.Given as goal

abbrev pub invariant-loop-key : goal.invariant-loop-key
invariant-loop-key g l = record {
  common : IsCommonJoined g.K.Ord.cmp g.J.Join.joined l.fn.mine (take l.key-index l.theirs) l.mine
      l.missing.items;
  next : (d : g.row.K.Denot × g.row.J.Denot) → l.key-index < length l.theirs
      → (let e = get_or l.theirs l.key-index d in l.at ≤ place_of g.K.Ord.cmp e.0 l.fn.mine);
}
