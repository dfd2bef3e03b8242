use Rattle.std.proofs.Common.{◌≡◌, take}
use Rattle.catalogue.proofs.entries.Entries.copy.Given as goal

abbrev pub invariant-loop-lang : goal.invariant-loop-lang
invariant-loop-lang l = l.items.items ≡ take l.lang-index l.lang-items
