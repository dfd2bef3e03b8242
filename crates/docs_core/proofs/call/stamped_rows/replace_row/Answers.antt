use Rattle.std.proofs.Common.{◌∙◌, ◌++◌, [], ◌∷◌, ap, subst, sym}
use Rattle.std.proofs.lemmas.Option.{IfSome_then}
use Rattle.cell_core.specs.Entry.{EntryKey}
use Rattle.cell_core.specs.inner.Entry.{key_cmp_exact}
use Rattle.site_docs.specs.RowsDraft.{HoldsRows}
use Rattle.cell_core.specs.Stamp.{stamp_cmp}
use Rattle.cell_core.specs.declared.cell.Cell.{Cell}
use Rattle.site_docs.specs.WrittenRows.{current_of, entry_of}
use Rattle.docs_core.specs.inner.SyncedRows.{order_to, untested}
use Rattle.lang_core.proofs.Basics.{less_of as lt_less}
use Rattle.docs_core.proofs.StampedRowsLemmas.{later_agrees, later_joined}
use Rattle.docs_core.proofs.SyncedRowsLemmas.{both_written, some_both}
use Rattle.docs_core.proofs.call.stamped_rows.replace_row.Goals as goal

-- one row more is read
pub returns-clause-read : goal.returns-clause-read
returns-clause-read c =
    IfSome_then c.advance.result c.advance.ensures.read (λ _ reads. (
      c.requires.0,
      c.requires.1 ++ current_of c.advance.new.rows,
      reads c.requires.0 c.requires.1 c.requires.2,
    ))

-- the changed cell is later than that of the row, so it is the join of both
pub returns-clause-synced : goal.returns-clause-synced
returns-clause-synced c =
    let key : EntryKey = (c.args.id.now, c.args.lang.now) in
    let cell = c.args.cell.now in
    let row = entry_of c.in-Some.row in
    let shown = c.in-Some.ensures in
    some_both c.advance.result c.advance.ensures.read c.advance.ensures.in_time
    (λ _ reads in_time. λ bytes seen equal above so_far.
    let same = key_cmp_exact row.0 key (ap (order_to key) (sym shown.0) ∙ equal) in
    let is = shown.0 ∙ ap (λ (k : EntryKey). (k, row.1) ∷ []) same in
    let less = sym (c.cmp.ensures ∙ ap (stamp_cmp row.1.stamp) c.stamp.ensures)
    ∙ lt_less c.cmp.result (sym c.if-not-is_lt.ensures) in
    both_written key cell row.1 untested bytes c.args.rows.now c.advance.new.rows
    c.args.draft.now c.add_cell.new.self seen is above so_far (reads bytes) in_time
    (later_agrees cell row.1 less) (tt, tt)
    (λ cells holds. subst (λ (d : Cell). HoldsRows c.add_cell.new.self (cells ++ (key, d) ∷ []))
    (sym (later_joined cell row.1 less)) (c.in-Ok.ensures cells holds)))
