use Rattle.std.proofs.Common.{◌≡◌, ℕ, List, drop}
use Rattle.query_docs.specs.inner.ByMessage.{cells_of}
use Rattle.query_docs.specs.Outdated.{live_time}
use Rattle.query_docs.proofs.chosen.live_time.Given as goal

-- no cell before has this language
abbrev pub invariant-loop-cell : goal.invariant-loop-cell
invariant-loop-cell l = (id : List ℕ) → live_time (id, l.lang) (cells_of id l.cells)
    ≡ live_time (id, l.lang) (cells_of id (drop l.cell-index l.cells))
