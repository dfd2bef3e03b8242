use Rattle.std.proofs.Common.{refl}
use Rattle.docs_core.specs.inner.SyncedRows.{untested}
use Rattle.docs_core.proofs.StampedRowsLemmas.{stamped_none}
use Rattle.docs_core.proofs.SyncedRowsLemmas.{synced_none}
use Rattle.docs_core.proofs.call.stamped_rows.StampedRows.new.Goals as goal

-- no change is written
pub returns-clause-holds : goal.returns-clause-holds
returns-clause-holds c =
    stamped_none c.args.now c.args.name c.args.stamps.now.latest _ refl refl refl
    (synced_none untested c.args.site.now c.args.rows c.in_ok-draft.draft c.requires tt
    c.in_ok-draft.ensures)
