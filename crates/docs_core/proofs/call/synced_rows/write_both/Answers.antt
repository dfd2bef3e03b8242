use Rattle.std.proofs.Common.{◌∙◌, [], ◌∷◌, ap, sym}
use Rattle.cell_core.specs.Entry.{EntryKey}
use Rattle.cell_core.specs.inner.Entry.{key_cmp_exact}
use Rattle.site_docs.specs.Sink.{entry_of}
use Rattle.site_docs.specs.WrittenRows.{entry_of as row_entry}
use Rattle.docs_core.specs.inner.SyncedRows.{order_to}
use Rattle.docs_core.proofs.SyncedRowsLemmas.{both_written, some_both}
use Rattle.docs_core.proofs.call.synced_rows.write_both.Goals as goal

-- the row that was read last is of the key
pub returns : goal.returns
returns c =
    let e = entry_of c.args.cell.now in
    let row = row_entry c.in-Some.row in
    let shown = c.in-Some.ensures in
    let wrote = c.in_ok-write_later.ensures in
    some_both c.advance.result c.advance.ensures.read c.advance.ensures.in_time
    (λ _ reads in_time. λ bytes seen equal above so_far.
    let same = key_cmp_exact row.0 e.0 (ap (order_to e.0) (sym shown.0) ∙ equal) in
    let is = shown.0 ∙ ap (λ (k : EntryKey). (k, row.1) ∷ []) same in
    both_written e.0 e.1 row.1 c.args.tests.now bytes c.args.rows.now c.advance.new.rows
    c.args.draft.now c.write_later.new.draft seen is above so_far (reads bytes) in_time wrote.0
    wrote.1 (λ cells holds. wrote.2 cells same holds))
