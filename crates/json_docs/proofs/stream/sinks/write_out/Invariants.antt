use Rattle.std.proofs.Common.{◌≡◌, ◌++◌, List, ℕ, length, false}
use Rattle.std.specs.Io.KnownBytes.{Appends}
use Rattle.json_docs.proofs.stream.sinks.write_out.Given as goal

-- what was written so far, and what is left, make the text
abbrev pub invariant-loop-rest : goal.invariant-loop-rest
invariant-loop-rest g l =
    (front : List ℕ) × (l.fn.bytes ≡ front ++ l.rest)
    × Appends (g.S.Sink.contents l.fn.writer) (g.S.Sink.contents l.writer) front
    × (g.S.Sink.failed l.writer ≡ false)

abbrev pub decreases-loop-rest : goal.decreases-loop-rest
decreases-loop-rest g l = length l.rest
