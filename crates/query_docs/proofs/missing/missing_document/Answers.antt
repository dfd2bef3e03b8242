use Rattle.query_docs.proofs.missing.missing_document.Goals as goal

pub returns : goal.returns
returns c = c.chosen_document.ensures
