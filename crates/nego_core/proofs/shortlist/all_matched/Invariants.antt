use Rattle.std.proofs.Common.{take}
use Rattle.nego_core.specs.Filtering.{texts_of}
use Rattle.nego_core.specs.inner.Shortlist.{AreMatchedLangs}
use Rattle.nego_core.proofs.shortlist.all_matched.Given as goal

abbrev pub invariant-loop-lang : goal.invariant-loop-lang
invariant-loop-lang l =
    AreMatchedLangs l.ranges.scheme l.ranges.list.now (take l.lang-index (texts_of l.langs))
    l.matched.items
