use Rattle.std.proofs.Common.{◌≡◌, [], ◌∷◌, ◌++◌, length, arith, sym, ap, ◌∙◌, subst}
use Rattle.cell_core.specs.Chunks.{all_of, AllFilled}
use Rattle.cell_core.proofs.ChunksAppendLemmas.{pushed_chunk, filled_push}
use Rattle.cell_core.proofs.chunks.push_chunk.Goals as goal

pub returns-clause-filled : goal.returns-clause-filled
returns-clause-filled g c =
    let chunk = c.push_reserved.new.self in
    let one : chunk.items ≡ c.args.item ∷ [] =
    c.push_reserved.ensures.items
    ∙ ap (λ xs. xs ++ c.args.item ∷ []) c.in-Ok-with_capacity.ensures.items in
    subst AllFilled
    (sym (c.push_reserved-2.ensures.items ∙ ap (λ xs. xs ++ chunk ∷ []) c.in-Ok.ensures.items))
    (filled_push c.args.chunks.now.items chunk c.requires (omega (arith, ap length one)))

pub returns-clause-ok : goal.returns-clause-ok
returns-clause-ok g c =
    let chunk = c.push_reserved.new.self in
    let one : chunk.items ≡ c.args.item ∷ [] =
    c.push_reserved.ensures.items
    ∙ ap (λ xs. xs ++ c.args.item ∷ []) c.in-Ok-with_capacity.ensures.items in
    ap all_of (c.push_reserved-2.ensures.items ∙ ap (λ xs. xs ++ chunk ∷ []) c.in-Ok.ensures.items)
    ∙ pushed_chunk c.args.chunks.now.items chunk c.args.item one
