use Rattle.query_docs.specs.Exporting.{live_labels}
use Rattle.query_docs.proofs.ExportingLemmas.{live-IsMap}
use Rattle.query_docs.proofs.exporting.write_live_labels.Goals as goal

-- the labels are those of the catalogue that was shown
pub returns : goal.returns
returns c =
    let cells = c.args.catalogue.now in
    let shown = c.in_ok-draft.ensures in
    (c.in_ok-doc.ensures (live_labels cells) shown.1 (live-IsMap cells shown.0)).0
