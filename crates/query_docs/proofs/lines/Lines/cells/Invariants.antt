use Rattle.std.proofs.Common.{◌≡◌, ◌++◌, ◌∷◌, codes, decimal, length, take}
use Rattle.std.specs.Prelude.{flat_map}
use Rattle.query_docs.specs.Lines.{cell_line, line}
use Rattle.query_docs.proofs.lines.Lines.cells.Given as goal

-- the lines of the cells so far
abbrev pub invariant-loop-place : goal.invariant-loop-place
invariant-loop-place l =
    l.written
    ≡ (l.fn.self ++ line (codes "cells" ++ 32 ∷ decimal (length l.cells)))
    ++ flat_map cell_line (take l.place l.cells)
