use Rattle.std.proofs.Common.{◌∙◌, sym}
use Rattle.std.proofs.lemmas.Option.{IfSome_then}
use Rattle.cell_core.proofs.Basics.{tied_order as tied}
use Rattle.docs_core.specs.inner.SyncedRows.{untested}
use Rattle.docs_core.proofs.SyncedRowsLemmas.{greater_left, own_written}
use Rattle.docs_core.proofs.call.stamped_rows.write_change.Goals as goal

-- the site has a row of the key
pub returns-then-is_eq-clause-synced : goal.returns-then-is_eq-clause-synced
returns-then-is_eq-clause-synced c =
    IfSome_then c.replace_row.result c.replace_row.ensures.synced
    (λ _ replaced. λ bytes seen above so_far.
    let before = c.in_ok-order.ensures in
    replaced bytes seen
    (sym before.order.0 ∙ tied c.in_ok-order.order (sym c.if-is_eq.ensures)) above
    (before.synced bytes seen above so_far))

-- it has none: the row is one more
pub returns-in-Ok-clause-synced : goal.returns-in-Ok-clause-synced
returns-in-Ok-clause-synced c = λ bytes seen above so_far.
    let before = c.in_ok-order.ensures in
    let greater = greater_left c.in_ok-order.order before.order.1 (sym c.if-is_eq.ensures) in
    own_written (c.args.id.now, c.args.lang.now) c.args.cell.now untested bytes
    c.write_before.new.rows c.write_before.new.draft c.add_cell.new.self seen
    (sym before.order.0 ∙ greater) above tt (before.synced bytes seen above so_far) c.in-Ok.ensures
