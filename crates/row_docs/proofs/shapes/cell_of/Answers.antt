use Rattle.std.proofs.Common.{arith}
use Rattle.json_docs.specs.ScanningReads.{seen}
use Rattle.row_docs.proofs.ShapesRowsLemmas.{cell_whole}
use Rattle.row_docs.proofs.shapes.cell_of.Goals as goal

pub returns-clause-cell : goal.returns-clause-cell
returns-clause-cell c =
    cell_whole c.args.version c.in_ok-items_of.field-0.now (seen c.args.value.now) c.id-item.result
    c.language-item.result c.time-item.result c.site-item.result c.count-item.result
    c.label-item.result _ _
    c.in-len6.len_at_least (omega arith) c.id-item.is c.language-item.is c.time-item.is
    c.site-item.is c.count-item.is c.label-item.is
    c.in_ok-items_of.ensures.items c.in_ok-row.ensures c.in_ok-texts.ensures.label
