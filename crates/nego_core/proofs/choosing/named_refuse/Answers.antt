use Rattle.nego_core.proofs.ChoosingCandidatesLemmas.{named_refused}
use Rattle.nego_core.proofs.choosing.named_refuse.Goals as goal

pub returns-in-Some : goal.returns-in-Some
returns-in-Some c =
    rw c.weight.ensures.value
    (named_refused c.args.list.now _ c.in-Some.best c.index-items-best.result
    (rw (c.as_bytes.ensures.value, c.indexed_items.ensures) at c.in-Some.ensures)
    (rw c.items-items.ensures.items at c.index-items-best.is))
