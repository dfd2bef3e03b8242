use Rattle.std.proofs.Common.{◌≡◌, ◌∙◌, Option, Some, ap, ap₂, cond, sym}
use Rattle.std.specs.declared.cmp.Ordering.TheVariants.{Greater}
use Rattle.std.specs.Ordering.{is_gt}
use Rattle.cell_core.specs.Cell.{joined_stamps}
use Rattle.cell_core.specs.Keyed.{joined_if_both}
use Rattle.cell_core.specs.declared.stamp.Stamp.{Stamp}
use Rattle.cell_core.specs.Entry.{EntryKey, key_cmp}
use Rattle.site_docs.specs.Sink.{entry_of}
use Rattle.query_docs.proofs.StatusCountsLemmas.{latest_more}
use Rattle.docs_core.proofs.EditedRowsLemmas.{order_known, passed_more}
use Rattle.docs_core.proofs.call.edited_rows.EditedRowsCellSink.see.Goals as goal

-- the row is on its side of the key, and its stamp is among all
pub returns : goal.returns
returns c = λ first before held above.
    let e = entry_of c.args.cell in
    let own = c.args.self.now in
    let key : EntryKey = (first.id.now, first.lang.now) in
    let same : (own.id.now, own.lang.now) ≡ key = ap₂ (λ i l. (i, l)) held.0 held.1 in
    let order : key_cmp e.0 key ≡ c.order_of-order.result =
    sym (c.order_of-order.ensures
    ∙ ap (λ (k : EntryKey). cond own.is_passed Greater (key_cmp e.0 k)) same
    ∙ order_known key e.0 own.is_passed (held.2.3 e.0 above)) in
    let sides = c.in_ok-add_beside.ensures key before order held.2.0 held.2.1 in (
      held.0,
      held.1,
      (
        sides.0,
        sides.1,
        c.later-self.ensures
            ∙ ap (λ (l : Option Stamp). joined_if_both joined_stamps l (Some e.1.stamp)) held.2.2
            ∙ sym (latest_more before e),
        λ q over past. passed_more key before e q over
            (ap is_gt order ∙ sym c.is_gt-self.ensures ∙ past),
      ),
    )
