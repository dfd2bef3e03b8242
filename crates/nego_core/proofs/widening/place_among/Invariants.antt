use Rattle.std.specs.Prelude.{map}
use Rattle.nego_core.proofs.WideningLemmas.{SoFar}
use Rattle.nego_core.proofs.widening.place_among.Given as goal

abbrev pub invariant-loop-place : goal.invariant-loop-place
invariant-loop-place g l = SoFar (map g.L.AsLang.text l.langs) l.text l.place
