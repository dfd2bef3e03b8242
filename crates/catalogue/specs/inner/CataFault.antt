-- Which refusals cells can have.
use Rattle.std.specs.Prelude.{⊤}
use Rattle.catalogue.specs.declared.cata_fault.CataFault.{CataFault}
use Rattle.catalogue.specs.declared.cata_fault.CataFault.TheVariants.{StampReused, NoMemory}

-- a fault that cells can be refused by
abbrev pub IsOfCells : CataFault → Type 0
IsOfCells (StampReused place stamp) = ⊤
IsOfCells NoMemory = ⊤
IsOfCells _ = ⊥
