use Rattle.site_docs.specs.Sink.{entry_of}
use Rattle.query_docs.proofs.StatusCountsLemmas.{counts_more}
use Rattle.query_docs.proofs.status.CountsCellSink.see.Goals as goal

pub returns : goal.returns
returns c = λ first before counts above.
    counts_more c.args.self.now _ before (entry_of c.args.cell) c.in_ok-cells.ensures
    c.in_ok-labels.ensures c.in_ok-last.ensures counts
