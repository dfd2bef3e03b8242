use Rattle.std.proofs.Common.{◌∙◌, sym}
use Rattle.query_docs.specs.Lines.{cell_line}
use Rattle.query_docs.proofs.LinesLemmas.{item_there, more_lines}
use Rattle.query_docs.proofs.lines.Lines.cells.Goals as goal
use Rattle.query_docs.proofs.lines.Lines.cells.Goals.{in-Some+in_ok-written-2, in_default}

-- one cell more
pub loop-place-preserved : goal.loop-place-preserved
loop-place-preserved c =
    let cells = c.args.cells.now in
    elim c.match-nth.branch [
      | in-Some+in_ok-written-2 w ↦
          w.written-is ∙ w.in_ok-written-2.ensures
          ∙ more_lines cell_line _ cells c.loop-place.place w.in-Some.edit.now c.loop-place.written
          (sym w.in-Some.ensures) c.loop-place.invariant
      | in_default w ↦
          absurd (item_there cells c.loop-place.place
          (rw c.len-place-end.ensures at c.loop-place-test.true)
          (sym w.in_default.ensures))
    ]
