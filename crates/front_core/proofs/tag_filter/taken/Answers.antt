use Rattle.std.proofs.Common.{◌≡◌, ◌∙◌, ◌++◌, ◌∷◌, codes, decimal, length, rules, sym}
use Rattle.query_docs.specs.Lines.{line}
use Rattle.query_docs.proofs.LinesLemmas.{item_there, more_lines}
use Rattle.front_core.specs.TagFilter.{taken_line}
use Rattle.front_core.specs.inner.TagFilter.{texts_of}
use Rattle.front_core.proofs.tag_filter.taken.Goals as goal
use Rattle.front_core.proofs.tag_filter.taken.Goals.{in-Some+in_ok-text-2, in_default}

-- one line more
pub loop-at-preserved : goal.loop-at-preserved
loop-at-preserved c =
    let picks = c.args.picks.now in
    let names = texts_of c.args.names.now in
    elim c.match-nth.branch [
      | in-Some+in_ok-text-2 w ↦
          let one : c.match-nth.text.items ≡ c.loop-at.text.items ++ taken_line names
          w.in-Some.pick =
          search rules in
          one ∙ more_lines (taken_line names) (line (codes "filter" ++ 32 ∷ decimal (length picks)))
          picks c.loop-at.at w.in-Some.pick c.loop-at.text.items (sym w.in-Some.ensures)
          c.loop-at.invariant
      | in_default w ↦ absurd (item_there picks c.loop-at.at
          (rw c.len-at-end.ensures at c.loop-at-test.true) (sym w.in_default.ensures))
    ]
