use Rattle.std.proofs.Common.{◌≡◌, ◌∙◌, ◌∷◌, [], Some, ap, false, inl, inr, length, refl, sym, true}
use Rattle.std.proofs.lemmas.Result.{err_from_is_err_and}
use Rattle.cell_core.specs.Entry.{EntryKey}
use Rattle.row_docs.specs.Ascending.{cell_row, entry_in, last_key, own_cell_checks}
use Rattle.row_docs.specs.Fields.{key_of, order_check}
use Rattle.row_docs.proofs.AscendingLemmas.{fails_alone, fails_row, key_of_cell, passes_row}
use Rattle.site_docs.proofs.ShownRowsLemmas.{above_shown, shown_more, some_weaker}
use Rattle.site_docs.proofs.document.shown_rows.ShownRowsRows.take.Goals as goal

-- the key is that of the last row, or less
pub returns-then-not-is_after-clause-err : goal.returns-then-not-is_after-clause-err
returns-then-not-is_after-clause-err g c = inr (λ d start before cut is holds.
    let version = c.args.version in
    let own = c.in_ok-entry_of_row.ensures d cut in
    let made = own.1 ∙ ap Some (sym c.into_parts-id.ensures) in
    let key : EntryKey = (c.into_parts-id.result.0, c.into_parts-id.result.1) in
    fails_row (entry_in version) (own_cell_checks version) before c.args.place d holds.cells _ _ is
    holds.makes made (key_of_cell _ _) own.0
    (λ above. let never : false ≡ true = c.if-not-is_after.ensures.1
    ((above_shown _ holds.cells key holds.makes.ascending holds.last).1 above) in absurd (cc)))

-- the key is above those of the rows before
pub show-requires : goal.show-requires
show-requires g c κs =
    let holds = c.requires.held.3 in
    let key : EntryKey = (c.into_parts-id.result.0, c.into_parts-id.result.1) in
    let above = (above_shown _ holds.cells key holds.makes.ascending holds.last).0
    (c.if-not-is_after.ensures.0 refl) in (
      (refl, tt),
      some_weaker c.args.self.now.sink _ _
          (λ sink seen. (c.requires.held.0, holds.cells, seen, above))
          holds.seen,
    )

pub returns-clause-ok : goal.returns-clause-ok
returns-clause-ok g c = λ d start before cut is holds.
    let version = c.args.version in
    let own = c.in_ok-entry_of_row.ensures d cut in
    let made = own.1 ∙ ap Some (sym c.into_parts-id.ensures) in
    let key : EntryKey = (c.into_parts-id.result.0, c.into_parts-id.result.1) in
    let above = (above_shown _ holds.cells key holds.makes.ascending holds.last).0
    (c.if-not-is_after.ensures.0 refl) in (
      passes_row (entry_in version) (own_cell_checks version) before c.args.place d holds.cells _ _
          is holds.makes made (key_of_cell _ _) own.0 above,
      shown_more g.S.CellSink.Holds start version c.args.self.now _ before d _ holds made above
          refl (c.in_ok-show.ensures start holds.cells holds.seen above),
    )

-- The row fails one of its own tests.
pub returns-in_err-entry_of_row-clause-err : goal.returns-in_err-entry_of_row-clause-err
returns-in_err-entry_of_row-clause-err g c =
    let p = err_from_is_err_and c.from_residual.result c.from_residual.ensures.1 in
    let version = c.args.version in
    rw (p.1, p.2) (elim c.in_err-entry_of_row.ensures [
      | inl memory ↦ inl memory
      | inr fails ↦ inr (λ d start before cut at holds.
          fails_alone (own_cell_checks version) before c.args.place d
          (order_check (length before) (last_key (entry_in version) before)
          (key_of (cell_row version d).0) ∷ []) _ at (fails d cut))
    ])
