use Rattle.std.proofs.Common.{◌∙◌, ◌+◌, List, ap, drop, refl, sym}
use Rattle.std.specs.Ordering.{is_eq}
use Rattle.query_docs.specs.inner.ByMessage.{cells_of}
use Rattle.query_docs.specs.Outdated.{live_time}
use Rattle.query_docs.specs.declared.by_message.MessageCell.{MessageCell}
use Rattle.query_docs.proofs.ByMessageLemmas.{cells_from}
use Rattle.query_docs.proofs.ChosenLemmas.{time_after, time_here}
use Rattle.query_docs.proofs.chosen.live_time.Goals as goal

pub loop-cell-init : goal.loop-cell-init
loop-cell-init c = λ id. refl

-- this cell is the first of the language
pub returns-then-is_eq : goal.returns-then-is_eq
returns-then-is_eq c = λ id.
    let cells = c.args.cells.now in
    let lang = c.args.lang.now in
    let k = c.loop-cell.cell-index in
    let item = c.cell-item.result in
    let eq = ap is_eq (sym c.cmp.ensures) ∙ sym c.is_eq.ensures ∙ c.if-is_eq.true in
    c.labelled_time.ensures id
    ∙ sym (c.loop-cell.invariant id
    ∙ ap (λ (cs : List MessageCell). live_time (id, lang) (cells_of id cs))
    (cells_from cells k item c.loop-cell-test.true c.cell-item.is)
    ∙ time_here id lang item (drop (k + 1) cells) eq)

-- this cell is of another language
pub loop-cell-preserved : goal.loop-cell-preserved
loop-cell-preserved c = λ id.
    let cells = c.args.cells.now in
    let lang = c.args.lang.now in
    let k = c.loop-cell.cell-index in
    let item = c.cell-item.result in
    let ne = ap is_eq (sym c.cmp.ensures) ∙ sym c.is_eq.ensures ∙ c.if-is_eq.false in
    c.loop-cell.invariant id
    ∙ ap (λ (cs : List MessageCell). live_time (id, lang) (cells_of id cs))
    (cells_from cells k item c.loop-cell-test.true c.cell-item.is)
    ∙ time_after id lang item (drop (k + 1) cells) ne
