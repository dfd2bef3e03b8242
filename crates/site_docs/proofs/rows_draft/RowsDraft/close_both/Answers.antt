use Rattle.std.proofs.Common.{subst, sym}
use Rattle.site_docs.specs.inner.Envelope.{IsFront}
use Rattle.site_docs.proofs.RowsDraftLemmas.{is_front}
use Rattle.site_docs.proofs.rows_draft.RowsDraft.close_both.Goals as goal

-- the rows are closed, and a copy of them
pub returns : goal.returns
returns c = λ cells holds map. (
  c.in_ok-own.ensures cells holds map,
  c.in_ok-copy.ensures cells (subst (IsFront cells) (sym c.as_slice.ensures.value)
      (is_front c.args.self cells holds map)),
)
