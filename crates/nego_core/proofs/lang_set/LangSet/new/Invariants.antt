use Rattle.std.proofs.Common.{drop}
use Rattle.list_core.specs.Fingerprint.{slot_of}
use Rattle.nego_core.proofs.LangSetLemmas.{IsTableSoFar}
use Rattle.nego_core.proofs.lang_set.LangSet.new.Given as goal

abbrev pub invariant-loop-lang : goal.invariant-loop-lang
invariant-loop-lang l = IsTableSoFar slot_of 1024 l.langs (drop l.lang-index l.langs) l.slots
