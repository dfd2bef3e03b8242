use Rattle.std.proofs.Common.{◌≡◌, take}
use Rattle.catalogue.specs.EntriesBorrowed.{weighed_of}
use Rattle.catalogue.proofs.entries.LentEntries.copy.Given as goal

abbrev pub invariant-loop-lang : goal.invariant-loop-lang
invariant-loop-lang l = l.items.items ≡ weighed_of (take l.lang-index l.lang-items)
