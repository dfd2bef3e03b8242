use Rattle.std.proofs.Common.{◌∙◌, [], sym}
use Rattle.query_docs.specs.Lines.{lines_of}
use Rattle.query_docs.proofs.LinesLemmas.{item_there, more_lines}
use Rattle.query_docs.proofs.lines.answer_lines.Goals as goal
use Rattle.query_docs.proofs.lines.answer_lines.Goals.{in-Some+in_ok-written, in_default}

-- the lines of one answer more
pub loop-place-preserved : goal.loop-place-preserved
loop-place-preserved c =
    let answers = c.args.answers.now in
    elim c.match-nth.branch [
      | in-Some+in_ok-written w ↦
          w.written-is ∙ w.in_ok-written.ensures
          ∙ more_lines lines_of [] answers c.loop-place.place w.in-Some.answer.now
          c.loop-place.written (sym w.in-Some.ensures) c.loop-place.invariant
      | in_default w ↦
          absurd (item_there answers c.loop-place.place
          (rw c.len-place-end.ensures at c.loop-place-test.true) (sym w.in_default.ensures))
    ]
