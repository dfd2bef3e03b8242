use Rattle.std.specs.Prelude.{Option}
use Rattle.std.proofs.Common.{ℕ, List}
use Rattle.list_core.specs.Candidates.{candidates_left, candidates_of}
use Rattle.nego_core.specs.Choosing.{IsOpen, MatchFirstOf}
use Rattle.nego_core.proofs.choosing.first_of.Given as goal

abbrev pub invariant-loop-text : goal.invariant-loop-text
invariant-loop-text g l =
    (found : Option (List (List ℕ)))
    → MatchFirstOf (IsOpen l.list (g.H.Holds.held l.held)) (candidates_left l.text-iterator) found
    → MatchFirstOf (IsOpen l.list (g.H.Holds.held l.held)) (candidates_of l.item) found
