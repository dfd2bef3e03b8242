-- Where two maps of cells do not agree.
use Rattle.std.specs.Prelude.{◌≡◌, ℕ, ◌<◌, Some, List, slice_get}
use Rattle.std.specs.declared.cmp.Ordering.{Ordering}
use Rattle.std.specs.FinMap.Entries.{find}
use Rattle.cell_core.specs.declared.cell.Cell.{Cell}
use Rattle.cell_core.specs.declared.stamp.Stamp.{Stamp}
use Rattle.cell_core.specs.Cell.{AgreeCells}

-- the cell at a place agrees with what the other has at its key
abbrev pub AgreesAt : {K : Type 0} → (K → K → Ordering) → List (K × Cell) → List (K × Cell) → ℕ
    → Type 0
AgreesAt {K} cmp own other place =
    (k : K) (c d : Cell) → slice_get own place ≡ Some (k, c) → find cmp k other ≡ Some d
    → AgreeCells c d

-- the least place of the own map whose cell does not agree with the other's, and the stamp there
pub record IsFirstClash {K : Type 0} (cmp : K → K → Ordering) (own other : List (K × Cell))
    (place : ℕ) (stamp : Stamp) : Type 0 where
  pub before : (j : ℕ) → j < place → AgreesAt cmp own other j
  pub key : K
  pub mine : Cell
  pub theirs : Cell
  pub held : slice_get own place ≡ Some (key, mine)
  pub other_has : find cmp key other ≡ Some theirs
  pub differ : ¬ (AgreeCells mine theirs)
  pub stamp_there : mine.stamp ≡ stamp
