use Rattle.std.proofs.Common.{◌∙◌, ap, inl, inr, refl}
use Rattle.row_docs.specs.ShapesRows.{stamp_in}
use Rattle.row_docs.proofs.CutsFieldsLemmas.{not_there, stamp_by_itself}
use Rattle.row_docs.proofs.CutsRowsLemmas.{stamp_in-cut}
use Rattle.row_docs.proofs.ascending.own_stamp.Goals as goal

pub returns-in_default : goal.returns-in_default
returns-in_default c = inr (λ d cut. inl (
  not_there (stamp_in c.args.version d) (c.in_default.ensures
      ∙ (ap (stamp_in c.args.version) cut.value ∙ stamp_in-cut c.args.version 2 d)),
  refl,
))

pub returns : goal.returns
returns c = stamp_by_itself c.stamp_entry.result c.args.version c.args.place _ c.args.row.now
    c.in-Some.ensures c.stamp_entry.ensures
