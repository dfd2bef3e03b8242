use Rattle.docs_core.proofs.CallLaws.{one_changes_call, one_delta_call, one_edit, one_import}
use Rattle.docs_core.proofs.CallLaws.{one_sync, one_take, one_update}
use Rattle.docs_core.proofs.CallRefusals.{one_of_site_document}
use Rattle.docs_core.proofs.MergingLaws.{one_merge_refusal}
use Rattle.docs_core.proofs.ReplayingLaws.{one_replay_refusal}
use Rattle.docs_core.proofs.laws.one_refusal_of_a_call.Goals as goal

pub returns-clause-edit : goal.returns-clause-edit
returns-clause-edit c = one_edit

pub returns-clause-sync : goal.returns-clause-sync
returns-clause-sync c = one_sync

pub returns-clause-take : goal.returns-clause-take
returns-clause-take c = one_take

pub returns-clause-merge : goal.returns-clause-merge
returns-clause-merge c = one_merge_refusal

pub returns-clause-delta : goal.returns-clause-delta
returns-clause-delta c = one_delta_call

pub returns-clause-changes : goal.returns-clause-changes
returns-clause-changes c = one_changes_call

pub returns-clause-import : goal.returns-clause-import
returns-clause-import c = one_import

pub returns-clause-update : goal.returns-clause-update
returns-clause-update c = one_update

pub returns-clause-replay : goal.returns-clause-replay
returns-clause-replay c = one_replay_refusal

pub returns-clause-site : goal.returns-clause-site
returns-clause-site c = one_of_site_document 1
