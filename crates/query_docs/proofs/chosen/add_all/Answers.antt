use Rattle.std.proofs.Common.{◌≡◌, ◌∙◌, ◌++◌, List, ap, append_assoc, arith, length, subst}
use Rattle.std.proofs.Common.{sym, take}
use Rattle.std.proofs.Math.Seq.{take-length}
use Rattle.catalogue.proofs.Basics.{append_nil}
use Rattle.map_docs.specs.Maps.{Labelled}
use Rattle.query_docs.specs.inner.ByMessage.{cell_of, cells_of}
use Rattle.query_docs.specs.inner.Draft.{HasWritten, labelled_by}
use Rattle.query_docs.specs.Exporting.{live_labels}
use Rattle.query_docs.proofs.ByMessageLemmas.{cells_to}
use Rattle.query_docs.proofs.DraftLemmas.{live_more}
use Rattle.query_docs.proofs.chosen.add_all.Goals as goal

pub loop-cell-init : goal.loop-cell-init
loop-cell-init c = λ labels has.
    subst (HasWritten c.args.draft.now) (sym (append_nil labels)) has

-- the label of this cell, if it has one
pub loop-cell-preserved : goal.loop-cell-preserved
loop-cell-preserved c = λ labels has.
    let id = c.args.id.now in
    let cells = c.args.cells.now in
    let k = c.loop-cell.cell-index in
    let item = c.cell-item.result in
    let e = cell_of id item in
    let so_far = live_labels (cells_of id (take k cells)) in
    let one = labelled_by e.0 e.1.label in
    let more = ap live_labels (cells_to id cells k item c.loop-cell-test.true c.cell-item.is)
    ∙ live_more (cells_of id (take k cells)) e in
    subst (HasWritten c.add_seen.new.self)
    (append_assoc labels so_far one ∙ ap (λ (ls : List Labelled). labels ++ ls) (sym more))
    (c.in_ok-add_seen.ensures (labels ++ so_far) (c.loop-cell.invariant labels has))

-- all labels
pub returns : goal.returns
returns c =
    let all : c.loop-cell.cell-index ≡ length c.args.cells.now = omega arith in
    rw (all, take-length) at c.loop-cell.invariant
