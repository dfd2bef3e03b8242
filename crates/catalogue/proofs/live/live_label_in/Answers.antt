use Rattle.std.proofs.Common.{sym, Some, None}
use Rattle.catalogue.proofs.LabelsLemmas.{with_label, with_none}
use Rattle.catalogue.proofs.live.live_label_in.Goals as goal

pub returns-in-Some-label : goal.returns-in-Some-label
returns-in-Some-label c =
    with_label c.args.text.now c.args.cells.now c.in-Some.lang.now c.in-Some.cell.now
    (Some c.in-Some-label.label.now) c.in-Some.ensures.map c.in-Some.ensures.entry
    (sym c.in-Some-label.ensures)

pub returns-in-None-label : goal.returns-in-None-label
returns-in-None-label c =
    with_label c.args.text.now c.args.cells.now c.in-Some.lang.now c.in-Some.cell.now None
    c.in-Some.ensures.map c.in-Some.ensures.entry (sym c.in-None-label.ensures)

pub returns-in-None : goal.returns-in-None
returns-in-None c =
    with_none c.args.text.now c.args.cells.now c.in-None.ensures.map c.in-None.ensures.entry
