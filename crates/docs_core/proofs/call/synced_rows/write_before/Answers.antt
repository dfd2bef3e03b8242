use Rattle.cell_core.specs.Entry.{EntryKey}
use Rattle.docs_core.proofs.SyncedRowsLemmas.{synced_before}
use Rattle.docs_core.proofs.call.synced_rows.write_before.Goals as goal

-- no row is written yet
pub loop-order-init : goal.loop-order-init
loop-order-init c =
    let key : EntryKey = (c.args.id.now, c.args.lang.now) in (
      c.order_of-order.ensures,
      c.requires,
      λ bytes seen above so_far. synced_before key c.args.tests.now bytes c.args.rows.now
          c.args.draft.now seen above so_far,
    )
