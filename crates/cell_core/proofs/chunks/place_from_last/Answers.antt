use Rattle.std.proofs.Common.{◌≡◌, ◌-◌, length, get_or, arith, sym, ap, ◌∙◌, subst}
use Rattle.cell_core.specs.inner.Chunks.{IsPlaceIn}
use Rattle.cell_core.proofs.ChunksAppendLemmas.{at_last, some_of_last, gap_behind, none_found}
use Rattle.cell_core.proofs.ChunksAppendLemmas.{place_at_last}
use Rattle.cell_core.proofs.chunks.place_from_last.Goals as goal

pub overflow_sub-len : goal.overflow_sub-len
overflow_sub-len g c =
    omega (
      arith,
      some_of_last c.args.chunks.now c.in-Some.chunk.now c.requires.filled
          c.in-Some.ensures.value,
      c.len.ensures,
      c.in-Some.chunk.now.ok.0,
    )

pub index-requires : goal.index-requires
index-requires g c =
    omega (
      arith,
      some_of_last c.args.chunks.now c.in-Some.chunk.now c.requires.filled
          c.in-Some.ensures.value,
      c.len.ensures,
      c.in-Some.chunk.now.ok.0,
    )

pub overflow_sub-result-in-Equal : goal.overflow_sub-result-in-Equal
overflow_sub-result-in-Equal g c =
    omega (
      arith,
      some_of_last c.args.chunks.now c.in-Some.chunk.now c.requires.filled
          c.in-Some.ensures.value,
      c.len-in-Equal.ensures,
      c.in-Some.chunk.now.ok.0,
    )

pub returns-in-Equal : goal.returns-in-Equal
returns-in-Equal g c =
    let cmp = g.K.Ord.cmp in
    let key = c.args.key.now in
    let chunks = c.args.chunks.now in
    let chunk = c.in-Some.chunk.now in
    let e = c.index.result.now in
    let last = at_last chunks chunk c.in-Some.ensures.value in
    let len : c.len.result ≡ length chunk.items = omega (arith, c.len.ensures, chunk.ok.0) in
    let same : c.len-in-Equal.result ≡ length chunk.items =
    omega (arith, c.len-in-Equal.ensures, chunk.ok.0) in
    subst (λ n. IsPlaceIn cmp key chunks (length chunks - 1) (n - 1)) (sym same)
    (place_at_last cmp g.met.K.Ord.total key chunks (length chunks - 1) chunk e c.requires last.0
    last.1 (c.index.ensures ∙ ap (λ n. get_or chunk.items (n - 1) e) len)
    (sym c.cmp.ensures ∙ c.in-Equal.is))

pub returns-in-Greater : goal.returns-in-Greater
returns-in-Greater g c =
    let chunks = c.args.chunks.now in
    let chunk = c.in-Some.chunk.now in
    let e = c.index.result.now in
    let last = at_last chunks chunk c.in-Some.ensures.value in
    let len : c.len.result ≡ length chunk.items = omega (arith, c.len.ensures, chunk.ok.0) in
    let gap =
    gap_behind g.K.Ord.cmp g.met.K.Ord.total c.args.key.now chunks (length chunks - 1) chunk e
    c.requires last.0 last.1 (c.index.ensures ∙ ap (λ n. get_or chunk.items (n - 1) e) len)
    (sym c.cmp.ensures ∙ c.in-Greater.is) in
    gap.absent

pub returns-in-None : goal.returns-in-None
returns-in-None g c =
    none_found g.K.Ord.cmp c.args.key.now c.args.chunks.now c.in-None.ensures.value
