use Rattle.std.proofs.Common.{◌≡◌, ◌-◌, length, get_or, arith, sym, ap, ◌∙◌}
use Rattle.std.specs.Ordering.{is_gt}
use Rattle.cell_core.proofs.Basics.{is_greater}
use Rattle.cell_core.proofs.KeyedAboveLemmas.{above_last}
use Rattle.cell_core.proofs.ChunksAppendLemmas.{gap_behind, at_last, some_of_last}
use Rattle.cell_core.proofs.chunks.is_above_all.Goals as goal

pub overflow_sub-len : goal.overflow_sub-len
overflow_sub-len g c =
    omega (
      arith,
      some_of_last c.args.chunks.now c.in-Some.chunk.now c.requires.filled
          c.in-Some.ensures.value,
      c.len.ensures,
      c.in-Some.chunk.now.ok.0,
    )

pub index-requires : goal.index-requires
index-requires g c =
    omega (
      arith,
      some_of_last c.args.chunks.now c.in-Some.chunk.now c.requires.filled
          c.in-Some.ensures.value,
      c.len.ensures,
      c.in-Some.chunk.now.ok.0,
    )

pub returns-in-Some-clause-above : goal.returns-in-Some-clause-above
returns-in-Some-clause-above g c = λ above.
    let chunks = c.args.chunks.now in
    let chunk = c.in-Some.chunk.now in
    let e = c.index.result.now in
    let last = at_last chunks chunk c.in-Some.ensures.value in
    let len : c.len.result ≡ length chunk.items = omega (arith, c.len.ensures, chunk.ok.0) in
    gap_behind g.K.Ord.cmp g.met.K.Ord.total c.args.key.now chunks (length chunks - 1) chunk e
    c.requires last.0 last.1
    (c.index.ensures ∙ ap (λ n. get_or chunk.items (n - 1) e) len)
    (sym c.cmp.ensures ∙ is_greater c.cmp.result (sym c.is_gt.ensures ∙ above))

pub returns-in-Some-clause-below : goal.returns-in-Some-clause-below
returns-in-Some-clause-below g c = λ above.
    let chunks = c.args.chunks.now in
    let chunk = c.in-Some.chunk.now in
    let e = c.index.result.now in
    let len : c.len.result ≡ length chunk.items = omega (arith, c.len.ensures, chunk.ok.0) in
    let some = some_of_last chunks chunk c.requires.filled c.in-Some.ensures.value in
    let read = c.index.ensures ∙ ap (λ n. get_or chunk.items (n - 1) e) len in
    let filled = c.requires.filled in
    let last = c.in-Some.ensures.value in
    let key = c.args.key.now in
    let greater =
    above_last g.K.Ord.cmp g.met.K.Ord.total key chunks chunk e filled last some read above in
    c.is_gt.ensures ∙ ap is_gt (c.cmp.ensures ∙ greater)
