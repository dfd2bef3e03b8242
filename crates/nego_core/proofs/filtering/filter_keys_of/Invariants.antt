use Rattle.std.proofs.Common.{take}
use Rattle.std.specs.Prelude.{map}
use Rattle.nego_core.specs.Filtering.{AreKeys}
use Rattle.nego_core.proofs.filtering.filter_keys_of.Given as goal

abbrev pub invariant-loop-place : goal.invariant-loop-place
invariant-loop-place g l =
    AreKeys l.scheme l.list 0 (take l.place (map g.L.AsLang.text l.langs)) l.keys.items
