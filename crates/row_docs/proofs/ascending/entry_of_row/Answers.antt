use Rattle.std.proofs.Common.{◌∙◌, ap, inl, inr, refl}
use Rattle.row_docs.specs.Cuts.{recounted}
use Rattle.row_docs.specs.ShapesRows.{cell_in}
use Rattle.row_docs.proofs.CutsFieldsLemmas.{kept_fails, kept_passes, not_there}
use Rattle.row_docs.proofs.CutsRowsLemmas.{cell_in-cut, not_kept}
use Rattle.row_docs.proofs.ascending.entry_of_row.Goals as goal

pub returns-in_default : goal.returns-in_default
returns-in_default c = inr (λ d cut. inl (
  not_there (cell_in c.args.version d) (not_kept (cell_in c.args.version d)
      (c.in_default.ensures.cell
      ∙ (ap (cell_in c.args.version) cut.value ∙ cell_in-cut c.args.version 1 d))),
  refl,
))

pub returns-in-Ok : goal.returns-in-Ok
returns-in-Ok c = λ d cut.
    kept_passes c.args.version c.args.place d _ _
    (c.in-Some.ensures.cell
    ∙ (ap (cell_in c.args.version) cut.value ∙ cell_in-cut c.args.version 1 d))
    c.in-Ok.entry c.in-Ok.ensures

-- The row is refused as it is kept, but for the count of its texts.
pub returns-in-Err : goal.returns-in-Err
returns-in-Err c = rw c.recounted.ensures (elim c.in-Err.ensures [
  | inl memory ↦ inl (ap (recounted c.args.row.now.texts) memory)
  | inr fails ↦ inr (λ d cut.
      kept_fails c.args.version c.args.place d _ _
      (c.in-Some.ensures.cell
      ∙ (ap (cell_in c.args.version) cut.value ∙ cell_in-cut c.args.version 1 d))
      c.args.row.now.texts c.in-Err.cause cut.texts fails)
])
