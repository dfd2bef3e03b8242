-- By what cells are refused.
use Rattle.std.specs.Prelude.{◌≡◌}
use Rattle.cell_core.specs.Keyed.{IsMap}
use Rattle.catalogue.specs.declared.cata_fault.CataFault.{CataFault}
use Rattle.catalogue.specs.declared.cata_fault.CataFault.TheVariants.{StampReused, ClockSpent}
use Rattle.catalogue.specs.declared.cata_fault.CataFault.TheVariants.{NotForMe, NoMemory}
use Rattle.catalogue.specs.CataFault.{IsRefusal}
use Rattle.catalogue.specs.inner.CataFault.{IsOfCells}
use Rattle.cell_core.specs.Entry.{key_cmp}
use Rattle.catalogue.specs.Entries.{Entries, Agree}
use Rattle.catalogue.proofs.ClashLemmas.{clash_not_agree}

-- Cells are refused only for a reused stamp, or for lack of memory.
pub of_cells : (own other : Entries) (fault : CataFault) → IsRefusal own other fault
    → IsOfCells fault
of_cells own other (StampReused place stamp) h = tt
of_cells own other ClockSpent h = h
of_cells own other (NotForMe addressee) h = h
of_cells own other NoMemory h = tt

-- Cells that agree are refused for lack of memory alone.
pub by_memory : (own other : Entries) (fault : CataFault) → IsMap key_cmp own → Agree own other
    → IsRefusal own other fault → fault ≡ NoMemory
by_memory own other (StampReused place stamp) m agree h =
    absurd (clash_not_agree own other place stamp m h agree)
by_memory own other ClockSpent m agree h = absurd h
by_memory own other (NotForMe addressee) m agree h = absurd h
by_memory own other NoMemory m agree h = λ _. NoMemory
