use Rattle.cell_core.specs.Iter.{entries_left}
use Rattle.cell_core.specs.Entry.{key_cmp}
use Rattle.catalogue.specs.CatalogueFlat.{flat}
use Rattle.catalogue.proofs.ClashWalksLemmas.{IsAgreed}
use Rattle.catalogue.proofs.clash.find_clash.Given as goal

abbrev pub invariant-loop-id : goal.invariant-loop-id
invariant-loop-id l =
    IsAgreed key_cmp (flat l.mine) (flat l.theirs) (flat (entries_left l.id-iterator)) l.front
