use Rattle.std.proofs.Common.{◌∙◌, sym}
use Rattle.query_docs.specs.Lines.{weighed_line}
use Rattle.query_docs.proofs.LinesLemmas.{item_there, more_lines}
use Rattle.query_docs.proofs.lines.Lines.filter.Goals as goal
use Rattle.query_docs.proofs.lines.Lines.filter.Goals.{in-Some+in_ok-written-2, in_default}

-- one language more
pub loop-place-preserved : goal.loop-place-preserved
loop-place-preserved g c =
    let entries = g.W.Weights.weighed c.args.entries.now in
    elim c.match-entry.branch [
      | in-Some+in_ok-written-2 w ↦
          w.written-is ∙ w.in_ok-written-2.ensures
          ∙ more_lines weighed_line _ entries c.loop-place.place _ c.loop-place.written
          (sym w.in-Some.ensures) c.loop-place.invariant
      | in_default w ↦
          absurd (item_there entries c.loop-place.place
          (rw c.count-place-end.ensures at c.loop-place-test.true) (sym w.in_default.ensures))
    ]
