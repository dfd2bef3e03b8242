use Rattle.site_docs.proofs.open_rows.OpenRows.begin_row.Goals as goal

-- the text is as it was
pub returns-clause-same : goal.returns-clause-same
returns-clause-same c = λ opening rows holds. record {
  text = holds.text;
  begun = holds.begun;
  utf8 = holds.utf8;
  has_rows = holds.has_rows;
}
