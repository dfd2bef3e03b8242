use Rattle.std.proofs.Common.{◌≡◌, ◌+◌, ◌<◌, length, arith, sym, ap, ◌∙◌}
use Rattle.std.specs.Ordering.{is_gt}
use Rattle.std.proofs.lemmas.List.{get_or_default}
use Rattle.cell_core.proofs.KeyedPlacesLemmas.{place_of-le}
use Rattle.cell_core.proofs.KeyedWalkLemmas.{place_upto, place_after, place_found_in_map, gap_found}
use Rattle.cell_core.proofs.pairs.seek.Goals as goal

pub loop-low-init : goal.loop-low-init
loop-low-init g c = record {
  start = omega arith;
  from = c.requires.from;
  to = place_of-le g.K.Ord.cmp c.args.key.now c.args.pairs.now;
  within = omega arith;
  apart = λ d lt. absurd (omega (arith, lt));
}

-- The key is below the one in the middle, so its place is at the middle or before it.
pub loop-low-preserved-in-Less : goal.loop-low-preserved-in-Less
loop-low-preserved-in-Less g c =
    let cmp = g.K.Ord.cmp in
    let key = c.args.key.now in
    let pairs = c.args.pairs.now in
    let middle = c.loop-low.low + c.min.result in
    let lt : middle < length pairs = omega arith in
    let less =
    λ (d : g.row.K.Denot × g.row.J.Denot).
    ap (λ (e : g.row.K.Denot × g.row.J.Denot). cmp key e.0) (get_or_default pairs middle d _ lt)
    ∙ sym c.cmp.ensures ∙ c.in-Less.is in
    record {
      start = c.loop-low.invariant.start;
      from = c.loop-low.invariant.from;
      to = place_upto cmp key pairs middle c.index-pairs-middle.result
          (ap is_gt (less c.index-pairs-middle.result)) lt;
      within = omega arith;
      apart = λ d _. less d;
    }

pub returns-in-Equal-clause-found : goal.returns-in-Equal-clause-found
returns-in-Equal-clause-found g c =
    place_found_in_map g.K.Ord.cmp g.met.K.Ord.total c.args.key.now c.args.pairs.now
    (c.loop-low.low + c.min.result) _ c.requires.map (omega arith)
    (sym c.cmp.ensures ∙ c.in-Equal.is)

-- The key is above the one in the middle, so its place is after it.
pub loop-low-preserved : goal.loop-low-preserved
loop-low-preserved g c =
    let cmp = g.K.Ord.cmp in
    let key = c.args.key.now in
    let pairs = c.args.pairs.now in
    let middle = c.loop-low.low + c.min.result in
    let lt : middle < length pairs = omega arith in
    let after =
    place_after cmp g.met.K.Ord.total key pairs middle _ c.requires.map
    (sym c.cmp.ensures ∙ c.in-Greater.is) lt in
    record {
      start = omega arith;
      from = omega arith;
      to = c.loop-low.invariant.to;
      within = c.loop-low.invariant.within;
      apart = c.loop-low.invariant.apart;
    }

pub returns-clause-absent : goal.returns-clause-absent
returns-clause-absent g c =
    let same : c.loop-low.low ≡ c.loop-low.high = omega arith in
    gap_found g.K.Ord.cmp g.met.K.Ord.total c.args.key.now c.args.pairs.now c.loop-low.low
    c.requires.map c.loop-low.invariant.from (omega arith)
    (λ d lt. rw same (c.loop-low.invariant.apart d (omega (arith, lt))))
