use Rattle.docs_core.proofs.CallLaws.{changes_not_refused, delta_call_not_refused}
use Rattle.docs_core.proofs.CallLaws.{edit_not_refused, import_not_refused, sync_not_refused}
use Rattle.docs_core.proofs.CallLaws.{take_not_refused, update_not_refused}
use Rattle.docs_core.proofs.CallRefusals.{site_not_refused}
use Rattle.docs_core.proofs.MergingLaws.{merge_not_refused}
use Rattle.docs_core.proofs.ReplayingLaws.{replay_not_refused}
use Rattle.docs_core.proofs.laws.what_is_answered_is_not_refused.Goals as goal

pub returns-clause-edit : goal.returns-clause-edit
returns-clause-edit c = edit_not_refused

pub returns-clause-sync : goal.returns-clause-sync
returns-clause-sync c = sync_not_refused

pub returns-clause-take : goal.returns-clause-take
returns-clause-take c = take_not_refused

pub returns-clause-merge : goal.returns-clause-merge
returns-clause-merge c = merge_not_refused

pub returns-clause-delta : goal.returns-clause-delta
returns-clause-delta c = delta_call_not_refused

pub returns-clause-changes : goal.returns-clause-changes
returns-clause-changes c = changes_not_refused

pub returns-clause-import : goal.returns-clause-import
returns-clause-import c = import_not_refused

pub returns-clause-update : goal.returns-clause-update
returns-clause-update c = update_not_refused

pub returns-clause-replay : goal.returns-clause-replay
returns-clause-replay c = replay_not_refused

pub returns-clause-site : goal.returns-clause-site
returns-clause-site c = site_not_refused 1
