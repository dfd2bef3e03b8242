use Rattle.cata_core.proofs.SiteOwnEditsLemmas.{own_agrees, own_joins, own_ascends, own_taken}
use Rattle.cata_core.proofs.laws.an_own_edit_is_joined.Goals as goal

pub returns-clause-agree : goal.returns-clause-agree
returns-clause-agree c = own_agrees

pub returns-clause-join : goal.returns-clause-join
returns-clause-join c = own_joins

pub returns-clause-above : goal.returns-clause-above
returns-clause-above c = own_ascends

pub returns-clause-taken : goal.returns-clause-taken
returns-clause-taken c = own_taken
