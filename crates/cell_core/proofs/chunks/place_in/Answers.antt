use Rattle.std.proofs.Common.{Vec, Global, sym, ap, ◌∙◌, subst}
use Rattle.std.specs.FinMap.Entries.{find}
use Rattle.std.proofs.lemmas.List.{get_or_default}
use Rattle.cell_core.specs.Keyed.{IsMap}
use Rattle.cell_core.specs.inner.KeyedPlaces.{IsPlace}
use Rattle.cell_core.proofs.ChunkLemmas.{chunk_map, find-chunk}
use Rattle.cell_core.proofs.chunks.place_in.Goals as goal

pub bisect-requires : goal.bisect-requires
bisect-requires g c =
    let cmp = g.K.Ord.cmp in
    let chunk = c.index-chunks-at.result in
    subst (IsMap cmp)
    (ap (λ (x : Vec (g.row.K.Denot × g.row.J.Denot) Global). x.items) (sym c.index-chunks-at.is)
    ∙ sym c.deref.ensures.value)
    (chunk_map cmp g.met.K.Ord.total c.args.chunks.now c.requires.chunked c.chunk_for-at.result
    chunk c.chunk_for-at.ensures.in_range)

-- The key is at this place of the chunk that it goes to, which was searched.
pub returns-in-Ok : goal.returns-in-Ok
returns-in-Ok g c =
    let cmp = g.K.Ord.cmp in
    let key = c.args.key.now in
    let cs = c.args.chunks.now in
    let at = c.chunk_for-at.result in
    let chunk = c.index-chunks-at.result in
    let fits = c.chunk_for-at.ensures in
    record {
      fits = fits;
      there = λ d.
          subst
          (λ (x : Vec (g.row.K.Denot × g.row.J.Denot) Global).
          IsPlace cmp key x.items c.in-Ok.place)
          (c.index-chunks-at.is ∙ get_or_default cs at chunk d fits.in_range)
          (subst (λ xs. IsPlace cmp key xs c.in-Ok.place) c.deref.ensures.value
          c.in-Ok.ensures.found);
    }

pub returns-in-Err : goal.returns-in-Err
returns-in-Err g c =
    let cmp = g.K.Ord.cmp in
    let key = c.args.key.now in
    let cs = c.args.chunks.now in
    let at = c.chunk_for-at.result in
    let chunk = c.index-chunks-at.result in
    find-chunk cmp g.met.K.Ord.total cs c.requires.chunked key at chunk c.chunk_for-at.ensures
    ∙ ap (λ (x : Vec (g.row.K.Denot × g.row.J.Denot) Global). find cmp key x.items)
    (sym c.index-chunks-at.is) ∙ ap (find cmp key) (sym c.deref.ensures.value)
    ∙ c.in-Err.ensures.absent.absent
