use Rattle.std.proofs.Common.{◌-◌, length, slice_get, ap, sym, ◌∙◌}
use Rattle.cell_core.proofs.ChunksAppendLemmas.{last_of_chunks, none_of_chunks}
use Rattle.cell_core.proofs.chunks.last_pair.Goals as goal

pub returns-in-Some : goal.returns-in-Some
returns-in-Some g c =
    c.last-in-Some.ensures.value ∙ ap (λ xs. slice_get xs (length xs - 1)) c.deref.ensures.value
    ∙ sym (last_of_chunks c.args.chunks.now c.in-Some.chunk.now c.requires c.in-Some.ensures.value)

pub returns-in-None : goal.returns-in-None
returns-in-None g c = none_of_chunks c.args.chunks.now c.in-None.ensures.value
