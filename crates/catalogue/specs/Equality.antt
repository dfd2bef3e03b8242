-- When edits and catalogues are equal.
use Rattle.std.specs.Prelude.{ℕ, Bool, List}
use Rattle.std.specs.Borrow.{Bor}
use Rattle.std.specs.Ordering.{eq_by_cmp, on, eq_of_both}
use Rattle.std.specs.Cmp.Lexicographic.{pointwise}
use Rattle.cell_core.specs.declared.cell.Cell.{Cell}
use Rattle.cell_core.specs.contracts.cell.CellPartialEq.TheImpl as cell_impl
use Rattle.cell_core.specs.Entry.{key_cmp}
use Rattle.catalogue.specs.Entries.{Entry, Entries}

-- what `==` says of two cells, by what its derive states: that they are equal exactly where the
-- cells are is in the law `changes_are_what_differs`, clause `differ`
abbrev pub cell_eq : Cell → Cell → Bool
cell_eq = (cell_impl.ghosts).eq

-- the same key with the same cell
abbrev pub entry_eq : Entry → Entry → Bool
entry_eq = eq_of_both (on (λ e. e.0) (eq_by_cmp key_cmp)) (on (λ e. e.1) cell_eq)

-- an entry seen through references
abbrev pub seen : Bor (List ℕ) × Bor (List ℕ) × Bor Cell → Entry
seen e = ((e.0.now, e.1.now), e.2.now)

-- the same entries in the same order
abbrev pub entries_eq : Entries → Entries → Bool
entries_eq = pointwise entry_eq
