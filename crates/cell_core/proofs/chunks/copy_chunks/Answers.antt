use Rattle.std.proofs.Common.{◌≡◌, ◌<◌, ◌∷◌, [], ◌++◌, Vec, Global, length, sym, ap, ◌∙◌, subst}
use Rattle.std.proofs.Common.{append-nil}
use Rattle.cell_core.specs.Chunks.{all_of, AllFilled}
use Rattle.cell_core.proofs.ChunkLemmas.{filled_at}
use Rattle.cell_core.proofs.ChunkJoinsRunLemmas.{all_of-append, all_of_more}
use Rattle.cell_core.proofs.ChunksAppendLemmas.{filled_push}
use Rattle.cell_core.proofs.chunks.copy_chunks.Goals as goal

-- The copies have the entries of the chunks before this one, and none is empty: the copy of this
-- one, which has its entries, was pushed last.
pub loop-chunk-preserved : goal.loop-chunk-preserved
loop-chunk-preserved g c =
    let cs = c.args.chunks.now in
    let i = c.loop-chunk.chunk-index in
    let copied = c.loop-chunk.copied.items in
    let chunk = c.chunk-item.result in
    let x = c.in_ok-copy_pairs.field-0 in
    let same : x.items ≡ chunk.items = c.in_ok-copy_pairs.ensures ∙ c.deref.ensures.value in
    record {
      same =
          ap all_of c.in_ok-push.ensures.items ∙ all_of-append copied (x ∷ [])
          ∙ ap (λ xs. all_of copied ++ xs) (append-nil x.items ∙ same)
          ∙ ap (λ xs. xs ++ chunk.items) c.loop-chunk.invariant.same
          ∙ all_of_more cs i chunk c.loop-chunk-test.true c.chunk-item.is;
      filled = subst AllFilled (sym c.in_ok-push.ensures.items)
          (filled_push copied x c.loop-chunk.invariant.filled
          (subst (λ xs. 0 < length xs)
          (ap (λ (y : Vec (g.row.K.Denot × g.row.J.Denot) Global). y.items)
          (sym c.chunk-item.is) ∙ sym same)
          (filled_at cs i chunk c.requires c.loop-chunk-test.true)));
    }
