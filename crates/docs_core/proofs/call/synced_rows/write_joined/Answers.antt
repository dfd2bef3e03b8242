use Rattle.std.proofs.Common.{◌∙◌, refl, sym}
use Rattle.std.proofs.lemmas.Option.{IfSome_then}
use Rattle.site_docs.specs.Sink.{entry_of}
use Rattle.cell_core.proofs.Basics.{tied_order as tied}
use Rattle.docs_core.proofs.SyncedRowsLemmas.{greater_left, own_written}
use Rattle.docs_core.proofs.call.synced_rows.write_joined.Goals as goal

-- the other document has a row of the key
pub returns-then-is_eq : goal.returns-then-is_eq
returns-then-is_eq c =
    IfSome_then c.write_both.result c.write_both.ensures
    (λ _ wrote. λ bytes seen above so_far.
    let before = c.in_ok-order.ensures in
    wrote bytes seen
    (sym before.order.0 ∙ tied c.in_ok-order.order (sym c.if-is_eq.ensures)) above
    (before.synced bytes seen above so_far))

-- it has none: the row is one more
pub returns-in-Ok : goal.returns-in-Ok
returns-in-Ok c = λ bytes seen above so_far.
    let e = entry_of c.args.cell.now in
    let before = c.in_ok-order.ensures in
    let greater = greater_left c.in_ok-order.order before.order.1 (sym c.if-is_eq.ensures) in
    own_written e.0 e.1 c.args.tests.now bytes c.write_before.new.rows c.write_before.new.draft
    c.add.new.self seen (sym before.order.0 ∙ greater) above (c.if-is_of.ensures refl)
    (before.synced bytes seen above so_far) c.in-Ok.ensures
