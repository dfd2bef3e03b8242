use Rattle.std.proofs.Common.{◌≡◌, ◌++◌, ◌∷◌, codes, decimal, length, take}
use Rattle.std.specs.Prelude.{flat_map}
use Rattle.query_docs.specs.Lines.{line, weighed_line}
use Rattle.query_docs.proofs.lines.Lines.filter.Given as goal

-- the lines of the languages so far
abbrev pub invariant-loop-place : goal.invariant-loop-place
invariant-loop-place g l =
    l.written
    ≡ (l.fn.self
    ++ line (codes "filter" ++ 32 ∷ decimal (length (g.W.Weights.weighed l.entries))))
    ++ flat_map weighed_line (take l.place (g.W.Weights.weighed l.entries))
