use Rattle.row_docs.proofs.fields.name_of.Goals as goal

pub returns-in-Ok : goal.returns-in-Ok
returns-in-Ok c = rw c.in-Name.is c.in-Ok.ensures
