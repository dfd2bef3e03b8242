use Rattle.std.proofs.Common.{◌<◌, ◌≤◌, length, get_or, take}
use Rattle.std.specs.FinMap.Entries.{find}
use Rattle.cell_core.specs.Keyed.{AgreeIfBoth}
use Rattle.cell_core.specs.inner.KeyedPlaces.{place_of}
use Rattle.cell_core.proofs.pairs.agree_pairs.Given as goal

abbrev pub invariant-loop-key : goal.invariant-loop-key
invariant-loop-key g l = record {
  agree : (q : g.row.K.Denot)
      → AgreeIfBoth g.J.Join.agree (find g.K.Ord.cmp q (take l.key-index l.mine))
      (find g.K.Ord.cmp q l.theirs);
  next : (d : g.row.K.Denot × g.row.J.Denot) → l.key-index < length l.mine
      → (let e = get_or l.mine l.key-index d in l.at ≤ place_of g.K.Ord.cmp e.0 l.theirs);
}
