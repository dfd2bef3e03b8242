use Rattle.std.proofs.Common.{take}
use Rattle.std.specs.Prelude.{map}
use Rattle.nego_core.specs.WidenedChoice.{MatchEarliest}
use Rattle.nego_core.proofs.widening.earliest_of.Given as goal

abbrev pub invariant-loop-lang : goal.invariant-loop-lang
invariant-loop-lang g l =
    MatchEarliest l.ranges.scheme l.ranges.list.now (take l.lang-index (map g.L.AsLang.text
    l.langs)) l.earliest
