use Rattle.std.proofs.Common.{◌<◌, length, map, string_bytes, arith, sym, ◌∙◌}
use Rattle.std.proofs.lemmas.List.{length-map}
use Rattle.map_docs.proofs.LabelsFieldsLemmas.{some_strings, strings_cause}
use Rattle.map_docs.proofs.labels.label_of.Goals as goal

pub returns-in-Err : goal.returns-in-Err
returns-in-Err c =
    let texts = map string_bytes c.args.strings.items in
    let some : 0 < length texts =
    omega (
      arith,
      length-map c.args.strings.items string_bytes,
      some_strings _ (sym c.is_empty.ensures ∙ c.if-is_empty.false),
      c.args.strings.ok.0,
    ) in
    rw c.of_cell.ensures (strings_cause c.args.row texts c.in-Err.fault some c.in-Err.ensures)
