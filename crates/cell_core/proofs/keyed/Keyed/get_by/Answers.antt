use Rattle.std.proofs.Common.{◌≡◌, Vec, Global, Some, get_or, sym, ap, ◌∙◌, subst}
use Rattle.std.specs.FinMap.Entries.{find}
use Rattle.cell_core.specs.KeyedFound.{with_key}
use Rattle.cell_core.specs.Keyed.{IsMap}
use Rattle.cell_core.specs.inner.Chunks.{IsChunkFor}
use Rattle.cell_core.proofs.ChunkLemmas.{chunk_map, find-chunk}
use Rattle.cell_core.proofs.KeyedPlacesLemmas.{entry_at_place}
use Rattle.cell_core.proofs.keyed.Keyed.get_by.Goals as goal

pub bisect-requires : goal.bisect-requires
bisect-requires g c =
    let cmp = g.K.Ord.cmp in
    let cs = c.self.inside.chunks.list.items in
    let at = c.chunk_for-at.result in
    let chunk = c.index-chunk.result.now in
    let place =
    subst (λ xs. IsChunkFor cmp (g.Q.Query.sought c.args.query) xs at) c.deref.ensures.value
    c.chunk_for-at.ensures in
    subst (IsMap cmp)
    (ap (λ (x : Vec (g.row.K.Denot × g.row.J.Denot) Global). x.items)
    (sym c.index-chunk.ensures) ∙ sym c.deref-2.ensures.value)
    (chunk_map cmp g.met.K.Ord.total cs c.self.invariant.chunked at chunk place.in_range)

-- The entry at the place found is what the map has at the key: all other chunks have only other
-- keys.
pub returns-in-Ok : goal.returns-in-Ok
returns-in-Ok g c =
    let cmp = g.K.Ord.cmp in
    let key = g.Q.Query.sought c.args.query in
    let cs = c.self.inside.chunks.list.items in
    let at = c.chunk_for-at.result in
    let chunk = c.index-chunk.result.now in
    let e = c.index-entry.result.now in
    let place =
    subst (λ xs. IsChunkFor cmp key xs at) c.deref.ensures.value c.chunk_for-at.ensures in
    let whole : find cmp key c.args.self.now ≡ find cmp key chunk.items =
    ap (find cmp key) (sym c.self.view_is)
    ∙ find-chunk cmp g.met.K.Ord.total cs c.self.invariant.chunked key at chunk place
    ∙ ap (λ (x : Vec (g.row.K.Denot × g.row.J.Denot) Global). find cmp key x.items)
    (sym c.index-chunk.ensures) in
    record {
      entry =
          ap (λ (f : g.row.K.Denot × g.row.J.Denot). with_key f.0 (Some f.1))
          (c.index-entry.ensures
          ∙ ap (λ xs. get_or xs c.in-Ok.place e) (sym c.deref-2.ensures.value))
          ∙ entry_at_place g.met.K.Key.exact key c.deref-2.result.now c.in-Ok.place e
          c.in-Ok.ensures.found
          ∙ ap (with_key key) (ap (find cmp key) c.deref-2.ensures.value ∙ sym whole);
      map = subst (IsMap cmp) c.self.view_is c.self.invariant.chunked.map;
    }

-- The map has not the key: its chunk has not, and all other chunks have only other keys.
pub returns-in-Err : goal.returns-in-Err
returns-in-Err g c =
    let cmp = g.K.Ord.cmp in
    let key = g.Q.Query.sought c.args.query in
    let cs = c.self.inside.chunks.list.items in
    let at = c.chunk_for-at.result in
    let chunk = c.index-chunk.result.now in
    let place =
    subst (λ xs. IsChunkFor cmp key xs at) c.deref.ensures.value c.chunk_for-at.ensures in
    let whole : find cmp key c.args.self.now ≡ find cmp key chunk.items =
    ap (find cmp key) (sym c.self.view_is)
    ∙ find-chunk cmp g.met.K.Ord.total cs c.self.invariant.chunked key at chunk place
    ∙ ap (λ (x : Vec (g.row.K.Denot × g.row.J.Denot) Global). find cmp key x.items)
    (sym c.index-chunk.ensures) in
    record {
      entry =
          ap (with_key key)
          (sym (whole ∙ ap (find cmp key) (sym c.deref-2.ensures.value)
          ∙ c.in-Err.ensures.absent.absent));
      map = subst (IsMap cmp) c.self.view_is c.self.invariant.chunked.map;
    }
