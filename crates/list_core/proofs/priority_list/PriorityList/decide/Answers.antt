use Rattle.lang_core.specs.Text.{pieces}
use Rattle.list_core.specs.Deciding.{Matches}
use Rattle.list_core.proofs.DecidingLemmas.{decided_by, most_specific}
use Rattle.list_core.proofs.priority_list.PriorityList.decide.Goals as goal

pub returns-in-Some-clause-decides : goal.returns-in-Some-clause-decides
returns-in-Some-clause-decides c =
    rw c.weight.ensures.value
    (decided_by _ c.args.self.now _ c.in-Some.best.place c.index.result.now
    (most_specific (λ i. Matches c.args.scheme (pieces i.range) (pieces c.args.tag.now))
    c.args.self.now c.in-Some.best (rw c.indexed_items.ensures at c.in-Some.ensures))
    (rw c.self.view_is at c.index.ensures))
