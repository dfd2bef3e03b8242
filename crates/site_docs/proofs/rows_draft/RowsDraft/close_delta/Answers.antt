use Rattle.site_docs.proofs.RowsDraftLemmas.{is_front}
use Rattle.site_docs.proofs.rows_draft.RowsDraft.close_delta.Goals as goal

pub returns : goal.returns
returns c = λ cells holds map. c.closed_delta.ensures cells (is_front c.args.self cells holds map)
