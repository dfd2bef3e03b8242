use Rattle.std.specs.Prelude.{Option}
use Rattle.std.proofs.Common.{ℕ, List}
use Rattle.nego_core.specs.WidenedChoice.{MatchEarliest}
use Rattle.nego_core.proofs.WideningEarliestLemmas.{IsFrom}
use Rattle.nego_core.proofs.WideningLemmas.{WidenedFrom}
use Rattle.nego_core.proofs.widened_choice.look_up_widened.Given as goal

abbrev pub invariant-loop-at : goal.invariant-loop-at
invariant-loop-at g l =
    let langs = g.L.Languages.texts l.langs in
    MatchEarliest l.fn.scheme l.list langs l.earliest × IsFrom l.at l.earliest
    × ((found : Option (List (List ℕ))) → WidenedFrom l.fn.scheme l.list langs l.keys l.at found
    → WidenedFrom l.fn.scheme l.list langs l.keys 0 found)
