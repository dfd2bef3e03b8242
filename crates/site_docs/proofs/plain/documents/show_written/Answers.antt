use Rattle.std.proofs.Common.{[]}
use Rattle.site_docs.proofs.PlainReads.{plain_taken_site}
use Rattle.site_docs.proofs.plain.documents.show_written.Goals as goal

pub returns : goal.returns
returns g c = plain_taken_site c.args.bytes.now c.show_plain.result
    (λ cells. (first : g.row.S.Denot) → g.S.CellSink.Holds first c.args.sink.now []
    → g.S.CellSink.Holds first c.show_plain.new.sink cells)
    c.show_plain.ensures
