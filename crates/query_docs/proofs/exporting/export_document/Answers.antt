use Rattle.query_docs.specs.Exporting.{live_labels}
use Rattle.query_docs.proofs.ExportingLemmas.{live-IsMap}
use Rattle.query_docs.proofs.exporting.export_document.Goals as goal

-- the labels are those of the site that was shown
pub returns : goal.returns
returns c =
    let shown = c.in_ok-draft.ensures in
    let cells = shown.0 in
    let closed = c.in_ok-doc.ensures (live_labels cells) shown.3 (live-IsMap cells shown.2) in
    (record { name = c.in_ok-draft.field-0-0; cells = cells }, shown.1, closed.0)
