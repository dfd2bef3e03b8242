use Rattle.std.proofs.Common.{◌∙◌, ◌++◌, [], ◌∷◌, ap, refl, subst, sym}
use Rattle.std.proofs.lemmas.Option.{IfSome_then}
use Rattle.std.specs.Cmp.{tied_itself}
use Rattle.std.specs.declared.cmp.Ordering.TheVariants.{Less}
use Rattle.cell_core.specs.inner.Cell.{stamp_cmp_total}
use Rattle.cell_core.specs.Stamp.{stamp_cmp}
use Rattle.cell_core.specs.declared.cell.Cell.{Cell}
use Rattle.cell_core.specs.Entry.{EntryKey}
use Rattle.site_docs.specs.RowsDraft.{HoldsRows}
use Rattle.site_docs.specs.Sink.{entry_of}
use Rattle.site_docs.specs.WrittenRows.{entry_of as row_entry}
use Rattle.lang_core.proofs.Basics.{less_of as lt_less}
use Rattle.docs_core.proofs.JoinedRowsLemmas.{apart_agrees, joined_first, joined_later}
use Rattle.docs_core.proofs.SyncedRowsLemmas.{kept_lacks, later_lacks, not_less}
use Rattle.docs_core.proofs.call.synced_rows.write_later.Goals as goal

-- the other cell is the later one
pub returns-then-is_lt : goal.returns-then-is_lt
returns-then-is_lt c =
    let e = entry_of c.args.cell.now in
    let d = row_entry c.args.row.now in
    let is = sym c.cmp-order.ensures ∙ lt_less c.cmp-order.result (sym c.if-is_lt.ensures) in
    IfSome_then c.write_theirs.result c.write_theirs.ensures
    (λ _ wrote. (
      apart_agrees e.1 d.1 Less is (λ h. cc),
      later_lacks c.args.tests.now e.1 d.1 is wrote.0,
      λ cells same holds.
          subst (λ (cell : Cell). HoldsRows c.write_theirs.new.draft (cells ++ (e.0, cell) ∷ []))
          (sym (joined_later e.1 d.1 is))
          (subst (λ (k : EntryKey). HoldsRows c.write_theirs.new.draft (cells ++ (k, d.1) ∷ []))
          same (wrote.1 cells holds)),
    ))

-- the cell that was seen is no earlier one, and agrees
pub returns : goal.returns
returns c =
    let e = entry_of c.args.cell.now in
    let d = row_entry c.args.row.now in
    let later = not_less c.cmp-order.result (sym c.if-is_lt.ensures) in (
      λ same. c.if-not-agrees.ensures refl
          (c.cmp-order.ensures ∙ ap (stamp_cmp e.1.stamp) (sym same)
          ∙ tied_itself stamp_cmp_total e.1.stamp),
      kept_lacks c.args.tests.now e.1 d.1 c.cmp-order.result (sym c.cmp-order.ensures) later
          (c.if-is_lacked.ensures refl),
      λ cells same holds.
          subst (λ (cell : Cell). HoldsRows c.add.new.self (cells ++ (e.0, cell) ∷ []))
          (sym (joined_first e.1 d.1 c.cmp-order.result (sym c.cmp-order.ensures) later))
          (c.in-Ok.ensures cells holds),
    )
