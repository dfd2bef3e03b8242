use Rattle.std.proofs.Common.{◌∙◌, List, Option, ap, sym, ℕ}
use Rattle.cell_core.specs.inner.KeyTextOrder.{texts_tie}
use Rattle.query_docs.specs.inner.ByMessage.{is_of}
use Rattle.query_docs.proofs.by_message.ByMessage.is_of.Goals as goal

-- the test of the two ids
pub returns-in-Some : goal.returns-in-Some
returns-in-Some g c =
    c.eq.ensures ∙ texts_tie c.in-Some.own c.args.id.now
    ∙ sym (ap (λ (o : Option (List ℕ)). is_of o c.args.id.now) c.in-Some.is)
