use Rattle.query_docs.proofs.outdated.outdated_document.Goals as goal

pub returns : goal.returns
returns c = c.chosen_document.ensures
