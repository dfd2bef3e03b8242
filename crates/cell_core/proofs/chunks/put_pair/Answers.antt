use Rattle.std.proofs.Common.{◌≡◌, Vec, Global, length, arith, sym, ap, ◌∙◌, subst}
use Rattle.std.specs.Option.{IsSome}
use Rattle.std.specs.FinMap.Entries.{find, put}
use Rattle.cell_core.specs.Keyed.{IsMap}
use Rattle.cell_core.specs.Chunks.{all_of, IsChunked}
use Rattle.cell_core.specs.inner.Chunks.{IsChunkFor}
use Rattle.cell_core.proofs.ChunkLemmas.{chunk_map, chunked_put, chunked_same, find-chunk}
use Rattle.cell_core.proofs.ChunkJoinsRunLemmas.{length_with}
use Rattle.cell_core.proofs.chunks.put_pair.Goals as goal
use Rattle.cell_core.proofs.chunks.put_pair.Goals.{then-added, else-added}

pub put_in-requires : goal.put_in-requires
put_in-requires g c =
    let at = c.chunk_for-at.result in
    let fits =
    subst (λ xs. IsChunkFor g.K.Ord.cmp c.args.key xs at) c.deref-2.ensures.value
    c.chunk_for-at.ensures in
    subst (λ (x : Vec (g.row.K.Denot × g.row.J.Denot) Global). IsMap g.K.Ord.cmp x.items)
    (sym c.index_mut.ensures.value)
    (chunk_map g.K.Ord.cmp g.met.K.Ord.total c.args.chunks.now.list.items c.requires.chunked at
    c.index_mut.result.now fits.in_range)

pub cut_if_full-requires-clause-chunked : goal.cut_if_full-requires-clause-chunked
cut_if_full-requires-clause-chunked g c =
    let at = c.chunk_for-at.result in
    let fits =
    subst (λ xs. IsChunkFor g.K.Ord.cmp c.args.key xs at) c.deref-2.ensures.value
    c.chunk_for-at.ensures in
    let new =
    chunked_put g.K.Ord.cmp g.met.K.Ord.total c.args.key c.args.value
    c.args.chunks.now.list.items at c.index_mut.result.now c.put_in.new.pairs c.requires.chunked
    fits c.index_mut.ensures.value c.in-Ok.ensures.ok in
    new.0

-- The keys ascend and none is empty, since the entry was put into the chunk where its key goes; the
-- count grew as the chunk did, and a cut changes no entry.
pub returns-after-added-clause-kept : goal.returns-after-added-clause-kept
returns-after-added-clause-kept g c =
    let cs = c.args.chunks.now.list.items in
    let at = c.chunk_for-at.result in
    let x = c.put_in.new.pairs in
    let fits =
    subst (λ xs. IsChunkFor g.K.Ord.cmp c.args.key xs at) c.deref-2.ensures.value
    c.chunk_for-at.ensures in
    let new =
    chunked_put g.K.Ord.cmp g.met.K.Ord.total c.args.key c.args.value cs at
    c.index_mut.result.now x c.requires.chunked fits c.index_mut.ensures.value
    c.in-Ok.ensures.ok in
    let sum = length_with cs at c.index_mut.result.now x fits.in_range c.index_mut.ensures.value in
    record {
      chunked =
          elim c.if-added.branch as (λ _. IsChunked g.K.Ord.cmp c.if-added.chunks.list.items) [
            | then-added w ↦ rw w.chunks-is w.cut_if_full.ensures.chunked
            | else-added w ↦ rw w.chunks-is new.0
          ];
      counted =
          elim c.if-added.branch as
          (λ _. c.if-added.chunks.count ≡ length (all_of c.if-added.chunks.list.items)) [
            | then-added w ↦
                rw (w.chunks-is, w.cut_if_full.ensures.same)
                (omega (
                  arith,
                  sum,
                  c.put_in.ensures.count,
                  c.requires.counted,
                  c.index_mut.result.now.ok.0,
                  x.ok.0,
                ))
            | else-added w ↦
                rw w.chunks-is
                (omega (
                  arith,
                  sum,
                  c.put_in.ensures.count,
                  c.requires.counted,
                  c.index_mut.result.now.ok.0,
                  x.ok.0,
                ))
          ];
    }

-- To put the entry into the chunk where its key goes is to put it into all; a cut changes no entry.
pub returns-after-added-clause-ok : goal.returns-after-added-clause-ok
returns-after-added-clause-ok g c =
    let cs = c.args.chunks.now.list.items in
    let at = c.chunk_for-at.result in
    let fits =
    subst (λ xs. IsChunkFor g.K.Ord.cmp c.args.key xs at) c.deref-2.ensures.value
    c.chunk_for-at.ensures in
    let new =
    chunked_put g.K.Ord.cmp g.met.K.Ord.total c.args.key c.args.value cs at
    c.index_mut.result.now c.put_in.new.pairs c.requires.chunked fits c.index_mut.ensures.value
    c.in-Ok.ensures.ok in
    elim c.if-added.branch as
    (λ _. all_of c.if-added.chunks.list.items
    ≡ put g.K.Ord.cmp c.args.key c.args.value (all_of cs)) [
      | then-added w ↦ rw (w.chunks-is, w.cut_if_full.ensures.same) new.1
      | else-added w ↦ rw w.chunks-is new.1
    ]

-- No memory: the chunk has the entries that it had, so all is as it was, and so is the count.
pub returns-in-Err-clause-kept : goal.returns-in-Err-clause-kept
returns-in-Err-clause-kept g c =
    let at = c.chunk_for-at.result in
    let x = c.put_in.new.pairs in
    let fits =
    subst (λ xs. IsChunkFor g.K.Ord.cmp c.args.key xs at) c.deref-2.ensures.value
    c.chunk_for-at.ensures in
    let back = c.in-Err.ensures.err in
    let same =
    chunked_same g.K.Ord.cmp c.args.chunks.now.list.items at c.index_mut.result.now x
    c.requires.chunked fits.in_range c.index_mut.ensures.value back.1 in
    let sum =
    length_with c.args.chunks.now.list.items at c.index_mut.result.now x fits.in_range
    c.index_mut.ensures.value in
    record {
      chunked = same.0;
      counted =
          omega (
            arith,
            sum,
            c.put_in.ensures.count,
            c.requires.counted,
            c.index_mut.result.now.ok.0,
            x.ok.0,
          );
    }

pub returns-in-Err-clause-err : goal.returns-in-Err-clause-err
returns-in-Err-clause-err g c =
    let at = c.chunk_for-at.result in
    let fits =
    subst (λ xs. IsChunkFor g.K.Ord.cmp c.args.key xs at) c.deref-2.ensures.value
    c.chunk_for-at.ensures in
    let back = c.in-Err.ensures.err in
    let same =
    chunked_same g.K.Ord.cmp c.args.chunks.now.list.items at c.index_mut.result.now
    c.put_in.new.pairs c.requires.chunked fits.in_range c.index_mut.ensures.value back.1 in
    (back.0, same.1)

pub returns-in-Err-clause-held : goal.returns-in-Err-clause-held
returns-in-Err-clause-held g c = λ held.
    let cmp = g.K.Ord.cmp in
    let at = c.chunk_for-at.result in
    let fits =
    subst (λ xs. IsChunkFor cmp c.args.key xs at) c.deref-2.ensures.value
    c.chunk_for-at.ensures in
    c.in-Err.ensures.held (subst IsSome
    (find-chunk cmp g.met.K.Ord.total c.args.chunks.now.list.items c.requires.chunked c.args.key at
    c.index_mut.result.now fits
    ∙ ap (λ (x : Vec (g.row.K.Denot × g.row.J.Denot) Global). find cmp c.args.key x.items)
    (sym c.index_mut.ensures.value))
    held)
