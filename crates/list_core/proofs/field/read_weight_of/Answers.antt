use Rattle.list_core.proofs.field.read_weight_of.Goals as goal

pub returns-in-Basic-clause-only : goal.returns-in-Basic-clause-only
returns-in-Basic-clause-only c = rw c.in-Basic.is c.read_weight.ensures.only

pub returns-in-Extended-clause-only : goal.returns-in-Extended-clause-only
returns-in-Extended-clause-only c = rw c.in-Extended.is c.read_no_weight.ensures.only
