use Rattle.std.proofs.Common.{◌∙◌, map, subst}
use Rattle.json_docs.specs.ScanningReads.{seen}
use Rattle.cell_core.specs.Fault.{RefusesLabel}
use Rattle.row_docs.proofs.FieldsLemmas.{among-texts_in, label_cause}
use Rattle.row_docs.proofs.fields.label_from.Goals as goal

pub returns-in-Ok : goal.returns-in-Ok
returns-in-Ok c =
    let texts = c.in_ok-texts.ensures ∙ among-texts_in (map seen c.args.values.now) c.requires in
    rw texts at c.in-Ok.ensures

pub returns-in-Err : goal.returns-in-Err
returns-in-Err c =
    let texts = c.in_ok-texts.ensures ∙ among-texts_in (map seen c.args.values.now) c.requires in
    let why = subst (λ t. RefusesLabel t c.in-Err.fault) texts c.in-Err.ensures in
    rw c.of_cell.ensures (label_cause c.args.place _ c.in-Err.fault why)
