use Rattle.std.proofs.Common.{◌+◌, ◌<◌, Vec, Global, length, arith, sym, subst}
use Rattle.cell_core.specs.inner.Chunks.{IsChunkFor}
use Rattle.cell_core.proofs.KeyedPlacesLemmas.{place_of-le}
use Rattle.cell_core.proofs.ChunkLemmas.{filled_at}
use Rattle.cell_core.proofs.ChunkJoinsFirstRunLemmas.{last_run, bounded_run, bounded_some}
use Rattle.cell_core.proofs.chunk_joins.first_run.Goals as goal

pub returns-then-at-chunks-clause-fits : goal.returns-then-at-chunks-clause-fits
returns-then-at-chunks-clause-fits g c =
    last_run g.K.Ord.cmp g.met.K.Ord.total c.args.chunks.now c.requires.chunked c.args.pairs.now
    c.requires.pairs c.requires.more c.index-pairs-0.result c.index-pairs-0.is
    c.chunk_for-at.result
    (subst
    (λ (x : g.row.K.Denot × g.row.J.Denot). IsChunkFor g.K.Ord.cmp x.0 c.args.chunks.now
    c.chunk_for-at.result) (sym c.index-pairs-0.is) c.chunk_for-at.ensures)
    c.if-at-chunks.true

pub index-requires : goal.index-requires
index-requires g c =
    let next : c.chunk_for-at.result + 1 < length c.args.chunks.now = omega arith in
    let some =
    subst (λ (x : Vec (g.row.K.Denot × g.row.J.Denot) Global). 0 < length x.items)
    (sym c.index-chunks-at.is)
    (filled_at c.args.chunks.now (c.chunk_for-at.result + 1) c.index-chunks-at.result
    c.requires.chunked.filled next) in
    omega (arith, some, c.index-chunks-at.result.ok.0)

pub returns-clause-more : goal.returns-clause-more
returns-clause-more g c =
    let next : c.chunk_for-at.result + 1 < length c.args.chunks.now = omega arith in
    let some =
    bounded_some g.K.Ord.cmp g.met.K.Ord.total c.args.chunks.now c.requires.chunked
    c.args.pairs.now c.requires.pairs c.requires.more c.index-pairs-0.result c.index-pairs-0.is
    c.chunk_for-at.result
    (subst
    (λ (x : g.row.K.Denot × g.row.J.Denot). IsChunkFor g.K.Ord.cmp x.0 c.args.chunks.now
    c.chunk_for-at.result) (sym c.index-pairs-0.is) c.chunk_for-at.ensures)
    next c.index-chunks-at.result c.index-chunks-at.is c.index.result.now c.index.ensures in
    omega (arith, some, c.run_end.ensures)

pub returns-clause-within : goal.returns-clause-within
returns-clause-within g c =
    omega (arith, c.run_end.ensures, place_of-le g.K.Ord.cmp c.index.result.now.0 c.args.pairs.now)

pub returns-clause-fits : goal.returns-clause-fits
returns-clause-fits g c =
    let next : c.chunk_for-at.result + 1 < length c.args.chunks.now = omega arith in
    rw c.run_end.ensures
    (bounded_run g.K.Ord.cmp g.met.K.Ord.total c.args.chunks.now c.requires.chunked c.args.pairs.now
    c.requires.pairs c.requires.more c.index-pairs-0.result c.index-pairs-0.is
    c.chunk_for-at.result
    (subst
    (λ (x : g.row.K.Denot × g.row.J.Denot). IsChunkFor g.K.Ord.cmp x.0 c.args.chunks.now
    c.chunk_for-at.result) (sym c.index-pairs-0.is) c.chunk_for-at.ensures)
    next c.index-chunks-at.result c.index-chunks-at.is c.index.result.now c.index.ensures)
