use Rattle.std.proofs.Common.{◌≡◌, ◌-◌, ◌<◌, ◌≤◌, ◌++◌, Vec, Global, suc, length, drop, slice_get}
use Rattle.std.proofs.Common.{arith, sym, ap, ◌∙◌, add-one}
use Rattle.cell_core.specs.Chunks.{all_of}
use Rattle.cell_core.proofs.ChunkLemmas.{all_of-drop}
use Rattle.cell_core.proofs.ChunksAppendLemmas.{nth_here, nth_behind}
use Rattle.cell_core.proofs.chunks.nth_pair.Goals as goal

pub returns-then-left-len : goal.returns-then-left-len
returns-then-left-len g c =
    let cs = c.args.chunks.now in
    let i = c.loop-chunk.chunk-index in
    let chunk = c.chunk-item.result in
    let rest = all_of (drop (suc i) cs) in
    let split =
    all_of-drop cs i chunk c.loop-chunk-test.true
    ∙ ap (λ (x : Vec (g.row.K.Denot × g.row.J.Denot) Global). x.items ++ rest)
    (sym c.chunk-item.is) in
    let lt : c.loop-chunk.left < length chunk.items =
    omega (arith, c.if-left-len.true, c.len.ensures, chunk.ok.0) in
    sym (nth_here chunk.items rest c.loop-chunk.left c.index.result.now lt c.index.ensures)
    ∙ ap (λ xs. slice_get xs c.loop-chunk.left) (sym split) ∙ c.loop-chunk.invariant

-- What is sought is at place `left` of the entries from this chunk on: it is none of this chunk's,
-- so it is as many places lower in what follows.
pub loop-chunk-preserved : goal.loop-chunk-preserved
loop-chunk-preserved g c =
    let cs = c.args.chunks.now in
    let i = c.loop-chunk.chunk-index in
    let left = c.loop-chunk.left in
    let chunk = c.chunk-item.result in
    let rest = all_of (drop (suc i) cs) in
    let split =
    all_of-drop cs i chunk c.loop-chunk-test.true
    ∙ ap (λ (x : Vec (g.row.K.Denot × g.row.J.Denot) Global). x.items ++ rest)
    (sym c.chunk-item.is) in
    let le : length chunk.items ≤ left =
    omega (arith, c.if-left-len.false, c.len.ensures, chunk.ok.0) in
    let step : left - c.len-left.result ≡ left - length chunk.items =
    omega (arith, c.len-left.ensures, chunk.ok.0) in
    ap (λ n. slice_get (all_of (drop n cs)) (left - c.len-left.result)) (add-one i)
    ∙ ap (slice_get rest) step
    ∙ sym (nth_behind chunk.items rest left le)
    ∙ ap (λ xs. slice_get xs left) (sym split) ∙ c.loop-chunk.invariant
