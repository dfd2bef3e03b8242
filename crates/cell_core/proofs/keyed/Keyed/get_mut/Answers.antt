use Rattle.std.proofs.Common.{◌≡◌, Vec, Global, None, length, arith, sym, ap, ◌∙◌, subst, refl, inr}
use Rattle.std.proofs.Common.{length-set}
use Rattle.std.specs.Vec.{with_item}
use Rattle.std.specs.FinMap.Entries.{find, put}
use Rattle.cell_core.specs.Keyed.{IsMap}
use Rattle.cell_core.specs.inner.KeyedPlaces.{IsPlace}
use Rattle.cell_core.specs.Chunks.{all_of}
use Rattle.cell_core.specs.inner.Chunks.{IsPlaceIn}
use Rattle.cell_core.proofs.KeyedPlacesLemmas.{set_as_put, find_read, lent_as}
use Rattle.cell_core.proofs.ChunkLemmas.{chunked_put, find-chunk}
use Rattle.cell_core.proofs.ChunkJoinsRunLemmas.{length_with}
use Rattle.cell_core.proofs.keyed.Keyed.get_mut.Goals as goal

-- Whatever is written there, the map stays in order and its count right: the value of a key that is
-- there is set, and the chunk keeps its keys.
pub invariant_of-self-lent : goal.invariant_of-self-lent
invariant_of-self-lent g c = λ w.
    let cmp = g.K.Ord.cmp in
    let key = c.args.key.now in
    let cs = c.self.inside.chunks.list.items in
    let at = c.in-Some.at in
    let place = c.in-Some.place in
    let chunk = c.index_mut.result.now in
    let e = c.index_mut-in-Some.result.now in
    let found =
    subst (λ xs. IsPlaceIn cmp key xs at place) c.deref.ensures.value c.in-Some.ensures in
    let there =
    subst (λ (x : Vec (g.row.K.Denot × g.row.J.Denot) Global). IsPlace cmp key x.items place)
    (sym c.index_mut.ensures.value) (found.there chunk) in
    let x = with_item chunk place (e.0, w) in
    let written =
    set_as_put key w chunk.items chunk.items place e there refl
    c.index_mut-in-Some.ensures.value in
    let new =
    chunked_put cmp g.met.K.Ord.total key w cs at chunk x c.self.invariant.chunked found.fits
    c.index_mut.ensures.value written in
    let sum = length_with cs at chunk x found.fits.in_range c.index_mut.ensures.value in
    let size : length x.items ≡ length chunk.items = length-set chunk.items place (e.0, w) in
    record {
      chunked = new.0;
      counted = omega (arith, sum, size, c.self.invariant.counted);
    }

-- What is borrowed is the map's value at the key, and to write there is to put that value at the
-- key, since the place is the key's in its chunk.
pub returns-in-Some : goal.returns-in-Some
returns-in-Some g c =
    let cmp = g.K.Ord.cmp in
    let key = c.args.key.now in
    let cs = c.self.inside.chunks.list.items in
    let at = c.in-Some.at in
    let place = c.in-Some.place in
    let chunk = c.index_mut.result.now in
    let e = c.index_mut-in-Some.result.now in
    let found =
    subst (λ xs. IsPlaceIn cmp key xs at place) c.deref.ensures.value c.in-Some.ensures in
    let there =
    subst (λ (x : Vec (g.row.K.Denot × g.row.J.Denot) Global). IsPlace cmp key x.items place)
    (sym c.index_mut.ensures.value) (found.there chunk) in
    let written = λ (w : g.row.J.Denot).
    let x = with_item chunk place (e.0, w) in
    let is =
    set_as_put key w chunk.items chunk.items place e there refl
    c.index_mut-in-Some.ensures.value in
    let new =
    chunked_put cmp g.met.K.Ord.total key w cs at chunk x c.self.invariant.chunked found.fits
    c.index_mut.ensures.value is in
    new.1 ∙ ap (put cmp key w) c.self.view_is in
    let value =
    ap (find cmp key) (sym c.self.view_is)
    ∙ find-chunk cmp g.met.K.Ord.total cs c.self.invariant.chunked key at chunk found.fits
    ∙ ap (λ (x : Vec (g.row.K.Denot × g.row.J.Denot) Global). find cmp key x.items)
    (sym c.index_mut.ensures.value)
    ∙ find_read key chunk.items chunk.items place e there refl
    c.index_mut-in-Some.ensures.value in (
      lent_as written,
      record {
        lends = tt;
        value = sym value;
        map =
            subst (IsMap cmp) c.self.view_is c.self.invariant.chunked.map;
      },
    )

pub returns-in-None : goal.returns-in-None
returns-in-None g c =
    let cmp = g.K.Ord.cmp in
    let key = c.args.key.now in
    let absent =
    ap (find cmp key) (sym c.self.view_is)
    ∙ subst (λ xs. find cmp key (all_of xs) ≡ None) c.deref.ensures.value c.in-None.ensures in (
      λ i. inr (c.self.view_is i),
      record {
        lends = tt;
        value = sym absent;
        map =
            subst (IsMap cmp) c.self.view_is c.self.invariant.chunked.map;
      },
    )
