use Rattle.std.proofs.Common.{refl}
use Rattle.std.proofs.lemmas.Option.{IfSome_then}
use Rattle.docs_core.proofs.SyncedRowsLemmas.{synced_none}
use Rattle.docs_core.proofs.call.synced_rows.SyncedRowsCellSink.begin.Goals as goal

-- no row is seen
pub returns : goal.returns
returns c =
    let self = c.args.self.now in (
      refl,
      refl,
      IfSome_then c.rows_in_time.result c.rows_in_time.ensures
          (λ rows read. synced_none self.tests self.other.now rows c.in_ok-draft.draft read.0
          read.1 c.in_ok-draft.ensures),
    )
