-- Why one cell is not joined to that of its key (project rule).
use Rattle.std.specs.Prelude.{◌≡◌, ℕ, Option, Some, None, ⊤}
use Rattle.cell_core.specs.declared.cell.Cell.{Cell}
use Rattle.cell_core.specs.Cell.{AgreeCells}
use Rattle.catalogue.specs.declared.cata_fault.CataFault.{CataFault}
use Rattle.catalogue.specs.declared.cata_fault.CataFault.TheVariants.{StampReused}
use Rattle.catalogue.specs.declared.cell_refusal.CellRefusal.{CellRefusal}
use Rattle.catalogue.specs.declared.cell_refusal.CellRefusal.TheVariants.{Clash, NoMemory}

-- the stored cell, if there is one, does not agree and has this stamp; or, out of memory, it agrees
abbrev pub IsCellRefusal : Option Cell → Cell → CellRefusal → Type 0
IsCellRefusal (Some mine) c (Clash stamp) = ¬ (AgreeCells mine c) × (stamp ≡ mine.stamp)
IsCellRefusal (Some mine) c NoMemory = AgreeCells mine c
IsCellRefusal None c (Clash stamp) = ⊥
IsCellRefusal None c NoMemory = ⊤

-- the refusal of a cell whose key has this place
abbrev pub at_place : ℕ → CellRefusal → CataFault
at_place place (Clash stamp) = StampReused place stamp
at_place place NoMemory = CataFault.NoMemory
