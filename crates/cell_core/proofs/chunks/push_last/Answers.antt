use Rattle.std.proofs.Common.{◌≡◌, ◌+◌, ◌-◌, ◌<◌, Vec, Global, length, set, arith, sym, ap, ◌∙◌}
use Rattle.std.proofs.Common.{subst}
use Rattle.std.proofs.lemmas.Result.{IfErr-weaker, on_ok_weaker}
use Rattle.cell_core.specs.Chunks.{all_of}
use Rattle.cell_core.proofs.ChunkLemmas.{filled_at, filled-set, same-chunk}
use Rattle.cell_core.proofs.ChunksAppendLemmas.{pushed_last}
use Rattle.cell_core.proofs.chunks.push_last.Goals as goal

pub returns-clause-filled : goal.returns-clause-filled
returns-clause-filled g c =
    let cs = c.args.chunks.now.items in
    let x = c.push_in.new.chunk in
    let at = c.len-len.result - 1 in
    let old = c.index_mut.result.now in
    let lt : at < length cs = omega (arith, c.args.chunks.now.ok.0) in
    let before =
    subst (λ (y : Vec g.row.T.Denot Global). 0 < length y.items) (sym c.index_mut.ensures.value)
    (filled_at cs at old c.requires lt) in
    let some : 0 < length x.items =
    omega (arith, before, c.push_in.ensures.grows, old.ok.0, x.ok.0) in
    filled-set cs at x some c.requires

pub returns-clause-ok : goal.returns-clause-ok
returns-clause-ok g c =
    let cs = c.args.chunks.now.items in
    let at = c.len-len.result - 1 in
    let last : at + 1 ≡ length cs = omega (arith, c.args.chunks.now.ok.0) in
    on_ok_weaker c.push_in.result
    (pushed_last cs at c.index_mut.result.now c.push_in.new.chunk c.args.item last
    c.index_mut.ensures.value) c.push_in.ensures.ok

pub returns-clause-err : goal.returns-clause-err
returns-clause-err g c =
    let cs = c.args.chunks.now.items in
    let at = c.len-len.result - 1 in
    let old = c.index_mut.result.now in
    let x = c.push_in.new.chunk in
    let lt : at < length cs = omega (arith, c.args.chunks.now.ok.0) in
    IfErr-weaker c.push_in.result (λ back. (back ≡ c.args.item) × (x.items ≡ old.items))
    (λ back. (back ≡ c.args.item) × (all_of (set cs at x) ≡ all_of cs))
    (λ back same. (
      same.0,
      same-chunk cs at old x lt
          (same.1 ∙ ap (λ (y : Vec g.row.T.Denot Global). y.items) c.index_mut.ensures.value),
    ))
    c.push_in.ensures.err
