use Rattle.cell_core.specs.Iter.{entries_left}
use Rattle.cell_core.specs.Entry.{text_cmp}
use Rattle.catalogue.proofs.ClashWalksLemmas.{IsAgreed}
use Rattle.catalogue.proofs.clash.find_clash_in.Given as goal

abbrev pub invariant-loop-lang : goal.invariant-loop-lang
invariant-loop-lang l = IsAgreed text_cmp l.mine l.theirs (entries_left l.lang-iterator) l.place
