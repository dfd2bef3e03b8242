use Rattle.nego_core.specs.Filtering.{texts_of}
use Rattle.nego_core.proofs.UnrankedLemmas.{AreFirst}
use Rattle.nego_core.proofs.unranked.Unranked.new.Given as goal

abbrev pub invariant-loop-lang : goal.invariant-loop-lang
invariant-loop-lang l = AreFirst (texts_of l.langs) l.lang-index l.left.entries
