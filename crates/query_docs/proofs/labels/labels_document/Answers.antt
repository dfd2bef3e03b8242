use Rattle.query_docs.proofs.labels.labels_document.Goals as goal

-- the counts are those of the site that was shown
pub returns : goal.returns
returns c =
    let shown = c.in_ok-seen.ensures in
    let lines = c.in_ok-answer.ensures in (
      record { name = c.in_ok-seen.field-0-0; cells = shown.0 },
      shown.1,
      (c.in_ok-seen.seen.counts, shown.3, lines.lines, lines.found),
    )
