use Rattle.std.proofs.Common.{[]}
use Rattle.site_docs.proofs.PlainLemmas.{plain_taken}
use Rattle.site_docs.proofs.plain.documents.show_plain.Goals as goal

pub returns : goal.returns
returns g c =
    let taken = c.in_ok-rest-2.ensures in
    let cells = taken.0 in
    plain_taken c.args.kind c.args.bytes.now c.in-Ok.text.now c.in_ok-rest.rest.now
    c.in_ok-rest-2.rest.now cells
    (λ all. (first : g.row.S.Denot) → g.S.CellSink.Holds first c.args.sink.now []
    → g.S.CellSink.Holds first c.next_cells.new.sink all)
    c.last_name.result c.in-Ok.ensures c.in_ok-rest.ensures taken.1 taken.2 taken.3
    c.last_name.ensures.text c.last_name.ensures.name
