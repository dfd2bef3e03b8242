use Rattle.std.proofs.Common.{◌≡◌, ◌++◌}
use Rattle.std.specs.Prelude.{flat_map}
use Rattle.cell_core.specs.Iter.{entries_left}
use Rattle.query_docs.specs.Labels.{count_line, labels_lines}
use Rattle.query_docs.proofs.labels.lines_of.Given as goal

-- with the lines of the languages that are left it comes to all
abbrev pub invariant-loop-lang : goal.invariant-loop-lang
invariant-loop-lang l =
    l.written ++ flat_map count_line (entries_left l.lang-iterator) ≡ labels_lines l.counts
