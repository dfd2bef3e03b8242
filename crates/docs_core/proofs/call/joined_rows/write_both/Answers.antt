use Rattle.std.proofs.Common.{◌∙◌, ◌++◌, [], ◌∷◌, ap, subst, sym}
use Rattle.cell_core.specs.Stamp.{stamp_cmp}
use Rattle.cell_core.specs.declared.cell.Cell.{Cell}
use Rattle.site_docs.specs.RowsDraft.{HoldsRows}
use Rattle.site_docs.specs.Sink.{entry_of}
use Rattle.docs_core.proofs.JoinedRowsLemmas.{apart_agrees, joined_first, joined_later}
use Rattle.docs_core.proofs.call.joined_rows.write_both.Goals as goal

-- the other cell is the later one
pub returns-in_ok-add_cell-in-Less : goal.returns-in_ok-add_cell-in-Less
returns-in_ok-add_cell-in-Less c =
    let e = entry_of c.args.cell.now in
    let other = c.args.other.now in
    let is = ap (stamp_cmp e.1.stamp) (sym c.stamp.ensures) ∙ sym c.in-Less.ensures in (
      apart_agrees e.1 other _ is (λ h. cc),
      λ rows holds.
          subst (λ (cell : Cell). HoldsRows c.add_cell.new.self (rows ++ (e.0, cell) ∷ []))
          (sym (joined_later e.1 other is)) (c.in_ok-add_cell-in-Less.ensures rows holds),
    )

-- the cell that was seen is the later one
pub returns-in_ok-add-in-Greater : goal.returns-in_ok-add-in-Greater
returns-in_ok-add-in-Greater c =
    let e = entry_of c.args.cell.now in
    let other = c.args.other.now in
    let is = ap (stamp_cmp e.1.stamp) (sym c.stamp.ensures) ∙ sym c.in-Greater.ensures in (
      apart_agrees e.1 other _ is (λ h. cc),
      λ rows holds.
          subst (λ (cell : Cell). HoldsRows c.add-in-Greater.new.self (rows ++ (e.0, cell) ∷ []))
          (sym (joined_first e.1 other _ is (λ h. cc)))
          (c.in_ok-add-in-Greater.ensures rows holds),
    )
