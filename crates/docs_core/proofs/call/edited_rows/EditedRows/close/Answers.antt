use Rattle.std.proofs.Common.{◌∙◌, ◌++◌, [], ◌∷◌, append_assoc, subst, sym}
use Rattle.std.specs.FinMap.Entries.{is_sorted-put, put}
use Rattle.cell_core.specs.Entry.{EntryKey, key_cmp}
use Rattle.cell_core.specs.inner.Entry.{key_cmp_total}
use Rattle.site_docs.specs.RowsDraft.{HoldsRows}
use Rattle.docs_core.specs.inner.EditedRows.{after_key, before_key}
use Rattle.docs_core.proofs.EditedRowsLemmas.{put_between}
use Rattle.docs_core.proofs.call.edited_rows.EditedRows.close.Goals as goal

-- the rows before the key, its row, and the rows after it
pub returns : goal.returns
returns c = λ cells holds map.
    let key : EntryKey = (c.args.self.id.now, c.args.self.lang.now) in
    let cell = c.args.cell.now in
    let before = before_key key cells in
    let after = after_key key cells in
    let whole = c.in_ok-append.ensures (before ++ (key, cell) ∷ []) after
    (c.in_ok-add_cell.ensures before holds.0) holds.1 in
    c.close.ensures (put key_cmp key cell cells)
    (subst (HoldsRows c.append.new.self)
    (append_assoc before ((key, cell) ∷ []) after ∙ sym (put_between key cell cells map)) whole)
    (is_sorted-put key_cmp key_cmp_total key cell cells map)
