use Rattle.std.proofs.Common.{subst, sym}
use Rattle.cell_core.proofs.KeyedAboveLemmas.{on_ok_then}
use Rattle.site_docs.specs.Sink.{entry_of}
use Rattle.query_docs.specs.inner.Draft.{HasWritten}
use Rattle.query_docs.specs.Exporting.{live_labels}
use Rattle.query_docs.proofs.DraftLemmas.{live_more}
use Rattle.query_docs.proofs.draft.DraftCellSink.see.Goals as goal

pub returns : goal.returns
returns c =
    on_ok_then c.add_seen.result
    (λ adds first before has above.
    subst (HasWritten c.add_seen.new.self) (sym (live_more before (entry_of c.args.cell)))
    (adds (live_labels before) has)) c.add_seen.ensures
