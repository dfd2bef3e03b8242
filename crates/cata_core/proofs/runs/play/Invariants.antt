use Rattle.std.proofs.Common.{◌≡◌, [], length}
use Rattle.cata_core.specs.inner.World.{at_sites}
use Rattle.cata_core.proofs.RunsPlayingLemmas.{IsPlayed}
use Rattle.cata_core.proofs.runs.play.Given as goal

abbrev pub invariant-loop : goal.invariant-loop
invariant-loop l = record {
  len : length l.catalogues.items ≡ l.counter;
  empty : at_sites l.catalogues.items ≡ (λ _. []);
}

abbrev pub invariant-loop-number : goal.invariant-loop-number
invariant-loop-number l = IsPlayed l.sites l.steps l.number l.world
