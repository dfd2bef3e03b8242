use Rattle.std.specs.Prelude.{Option}
use Rattle.std.proofs.Common.{ℕ, List}
use Rattle.nego_core.specs.Choosing.{IsOpen}
use Rattle.nego_core.proofs.ChoosingCandidatesLemmas.{FirstFrom}
use Rattle.nego_core.proofs.choosing.look_up.Given as goal

abbrev pub invariant-loop-key : goal.invariant-loop-key
invariant-loop-key g l =
    (found : Option (List (List ℕ)))
    → FirstFrom (IsOpen l.list (g.H.Holds.held l.held)) l.list l.keys l.key-index found
    → FirstFrom (IsOpen l.list (g.H.Holds.held l.held)) l.list l.keys 0 found
