use Rattle.std.proofs.Common.{subst, sym}
use Rattle.site_docs.specs.Plain.{IsPlainText}
use Rattle.site_docs.proofs.plain.documents.cells_of_plain.Goals as goal

pub returns : goal.returns
returns c =
    let shown = c.in_ok-name.ensures in
    subst (IsPlainText c.args.kind c.args.bytes.now c.in_ok-name.name)
    (sym (shown.2 c.new-cells.result c.new-cells.ensures)) shown.1
