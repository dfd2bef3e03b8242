-- How stamps and cells agree and join.
use Rattle.std.specs.Prelude.{◌≡◌}
use Rattle.cell_core.specs.declared.stamp.Stamp.{Stamp}
use Rattle.cell_core.specs.declared.cell.Cell.{Cell}
use Rattle.cell_core.specs.StampLater.{later_by}
use Rattle.cell_core.specs.Stamp.{stamp_cmp}

-- stamps always agree
abbrev pub AgreeStamps : Stamp → Stamp → Type 0
AgreeStamps a b = Unit {0}

-- the greater stamp
abbrev pub joined_stamps : Stamp → Stamp → Stamp
joined_stamps = later_by (λ s. s) stamp_cmp

-- two agree where their stamps differ or their labels are equal
abbrev pub AgreeBy : {X S L : Type 0} → (X → S) → (X → L) → X → X → Type 0
AgreeBy stamp label a b = stamp a ≡ stamp b → label a ≡ label b

-- cells agree where their stamps differ or their labels are equal
abbrev pub AgreeCells : Cell → Cell → Type 0
AgreeCells = AgreeBy (λ c. c.stamp) (λ c. c.label)

-- the cell with the greater stamp
abbrev pub joined_cells : Cell → Cell → Cell
joined_cells = later_by (λ c. c.stamp) stamp_cmp
