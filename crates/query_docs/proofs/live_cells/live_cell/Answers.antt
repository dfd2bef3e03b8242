use Rattle.std.proofs.Common.{◌∙◌, ◌+◌, List, ap, arith, drop, subst, sym}
use Rattle.std.proofs.lemmas.List.{drop_all}
use Rattle.std.specs.Prelude.{is_some}
use Rattle.std.specs.FinMap.Entries.{find}
use Rattle.cell_core.specs.KeyedFound.{with_key}
use Rattle.cell_core.specs.Entry.{text_cmp}
use Rattle.site_docs.specs.Sink.{IsLabelRef}
use Rattle.query_docs.specs.inner.LiveCells.{labels_of}
use Rattle.query_docs.specs.declared.by_message.MessageCell.{MessageCell}
use Rattle.query_docs.proofs.ByMessageLemmas.{cells_from}
use Rattle.query_docs.proofs.LiveCellsLemmas.{found_after, found_here}
use Rattle.query_docs.proofs.live_cells.live_cell.Goals as goal

-- this cell is the first of the language that has a label
pub returns-then-is_live_in-clause-found : goal.returns-then-is_live_in-clause-found
returns-then-is_live_in-clause-found c =
    let cells = c.args.cells.now in
    let text = c.args.text.now in
    let k = c.loop-cell.cell-index in
    let item = c.cell-item.result in
    let here = found_here text item (drop (k + 1) cells)
    (sym c.is_live_in.ensures ∙ c.if-is_live_in.true) in
    let step = c.loop-cell.invariant
    ∙ ap (λ (cs : List MessageCell). find text_cmp text (labels_of cs))
    (cells_from cells k item c.loop-cell-test.true c.cell-item.is) in
    here.2 ∙ sym (ap (with_key text) (step ∙ here.1))

pub returns-then-is_live_in-clause-there : goal.returns-then-is_live_in-clause-there
returns-then-is_live_in-clause-there c =
    let cells = c.args.cells.now in
    let text = c.args.text.now in
    let k = c.loop-cell.cell-index in
    let item = c.cell-item.result in
    let here = found_here text item (drop (k + 1) cells)
    (sym c.is_live_in.ensures ∙ c.if-is_live_in.true) in
    let step = c.loop-cell.invariant
    ∙ ap (λ (cs : List MessageCell). find text_cmp text (labels_of cs))
    (cells_from cells k item c.loop-cell-test.true c.cell-item.is) in
    sym (ap is_some (step ∙ here.1))

pub returns-then-is_live_in-clause-label : goal.returns-then-is_live_in-clause-label
returns-then-is_live_in-clause-label c = λ all.
    subst (λ (x : MessageCell). IsLabelRef x.label) (sym c.cell-item.is)
    (all c.loop-cell.cell-index c.cell-item.result c.loop-cell-test.true)

-- this cell is of another language, or has no label
pub loop-cell-preserved : goal.loop-cell-preserved
loop-cell-preserved c =
    let cells = c.args.cells.now in
    let text = c.args.text.now in
    let k = c.loop-cell.cell-index in
    let item = c.cell-item.result in
    c.loop-cell.invariant
    ∙ ap (λ (cs : List MessageCell). find text_cmp text (labels_of cs))
    (cells_from cells k item c.loop-cell-test.true c.cell-item.is)
    ∙ found_after text item (drop (k + 1) cells)
    (sym c.is_live_in.ensures ∙ c.if-is_live_in.false)

-- no cell has a label of the language
pub returns-clause-found : goal.returns-clause-found
returns-clause-found c =
    let cells = c.args.cells.now in
    let text = c.args.text.now in
    sym (ap (with_key text) (c.loop-cell.invariant
    ∙ ap (λ (cs : List MessageCell). find text_cmp text (labels_of cs))
    (drop_all c.loop-cell.cell-index cells (omega arith))))

pub returns-clause-there : goal.returns-clause-there
returns-clause-there c =
    let cells = c.args.cells.now in
    let text = c.args.text.now in
    sym (ap is_some (c.loop-cell.invariant
    ∙ ap (λ (cs : List MessageCell). find text_cmp text (labels_of cs))
    (drop_all c.loop-cell.cell-index cells (omega arith))))
