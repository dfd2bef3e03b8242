use Rattle.list_core.proofs.DecidingLemmas.{decision_on_lang}
use Rattle.list_core.proofs.priority_list.PriorityList.decision_on.Goals as goal

pub returns-in-Some-clause-decides : goal.returns-in-Some-clause-decides
returns-in-Some-clause-decides c =
    decision_on_lang c.args.scheme c.args.self.now c.args.lang.now c.in-Some.tag.now
    c.decide.result c.in-Some.ensures.value c.decide.ensures.decides
