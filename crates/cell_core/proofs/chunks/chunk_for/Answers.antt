use Rattle.std.proofs.Common.{◌≡◌, ◌+◌, ◌-◌, ◌/◌, ◌<◌, length, arith, sym, ap, ◌∙◌, subst, drop}
use Rattle.std.proofs.Common.{add-one, Vec, Global}
use Rattle.std.specs.Ordering.{is_lt}
use Rattle.cell_core.specs.Chunks.{all_of}
use Rattle.std.specs.Prelude.{T}
use Rattle.std.specs.FinMap.Entries.{below_all}
use Rattle.cell_core.proofs.ChunkLemmas.{filled_at, front_read, back_read}
use Rattle.cell_core.proofs.chunks.chunk_for.Goals as goal

pub index-requires : goal.index-requires
index-requires g c =
    let middle = c.loop-low.low + (c.loop-low.high - c.loop-low.low) / 2 in
    let lt : middle < length c.args.chunks.now = omega arith in
    let filled =
    filled_at c.args.chunks.now middle c.index-chunks-middle.result c.requires.chunked.filled
    lt in
    let some : 0 < length c.index-chunks-middle.result.items =
    subst (λ (x : Vec (g.row.K.Denot × g.row.J.Denot) Global). 0 < length x.items)
    (sym c.index-chunks-middle.is) filled in
    omega (arith, some, c.index-chunks-middle.result.ok.0)

pub loop-low-preserved-then-is_lt : goal.loop-low-preserved-then-is_lt
loop-low-preserved-then-is_lt g c =
    let middle = c.loop-low.low + (c.loop-low.high - c.loop-low.low) / 2 in
    let lt : middle < length c.args.chunks.now = omega arith in
    record {
      order = omega arith;
      within = omega arith;
      front = c.loop-low.invariant.front;
      back =
          back_read g.K.Ord.cmp g.met.K.Ord.total c.args.chunks.now c.requires.chunked
          (g.Q.Query.sought c.args.query) middle c.index-chunks-middle.result c.index.result.now lt
          c.index-chunks-middle.is c.index.ensures
          (ap is_lt (sym c.compare.ensures) ∙ sym c.is_lt.ensures ∙ c.if-is_lt.true);
    }

pub loop-low-preserved : goal.loop-low-preserved
loop-low-preserved g c =
    let middle = c.loop-low.low + (c.loop-low.high - c.loop-low.low) / 2 in
    let lt : middle < length c.args.chunks.now = omega arith in
    record {
      order = omega arith;
      within = c.loop-low.invariant.within;
      front =
          front_read g.K.Ord.cmp g.met.K.Ord.total c.args.chunks.now c.requires.chunked
          (g.Q.Query.sought c.args.query) middle c.index-chunks-middle.result c.index.result.now lt
          c.index-chunks-middle.is c.index.ensures
          (ap is_lt (sym c.compare.ensures) ∙ sym c.is_lt.ensures ∙ c.if-is_lt.false);
      back = c.loop-low.invariant.back;
    }

pub returns : goal.returns
returns g c =
    let same : c.loop-low.high ≡ c.loop-low.low + 1 = omega arith in
    record {
      in_range = omega arith;
      front = c.loop-low.invariant.front;
      back =
          subst (λ n. T
          (below_all g.K.Ord.cmp (g.Q.Query.sought c.args.query)
          (all_of (drop n c.args.chunks.now)))) (same ∙ add-one c.loop-low.low)
          c.loop-low.invariant.back;
    }
