use Rattle.std.proofs.Common.{◌≡◌, take}
use Rattle.query_docs.specs.Lines.{lines}
use Rattle.query_docs.proofs.lines.answer_lines.Given as goal

-- the lines of the answers so far
abbrev pub invariant-loop-place : goal.invariant-loop-place
invariant-loop-place l = l.written ≡ lines (take l.place l.answers)
