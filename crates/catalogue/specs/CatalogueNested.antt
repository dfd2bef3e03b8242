-- Catalogues as maps of maps, each seen as one list of entries.
use Rattle.std.specs.Prelude.{◌≡◌, ℕ, List, length}
use Rattle.cell_core.specs.declared.cell.Cell.{Cell}
use Rattle.cell_core.specs.Cell.{AgreeCells, joined_cells}
use Rattle.cell_core.specs.Keyed.{AgreeMaps, joined_maps}
use Rattle.cell_core.specs.Entry.{text_cmp}
use Rattle.catalogue.specs.CatalogueFlat.{flat, IsNested}

-- cells by language
abbrev pub Inner : Type 0
Inner = List (List ℕ × Cell)

-- cells by language, by message
abbrev pub Nested : Type 0
Nested = List (List ℕ × Inner)

-- both keys ascend, and no message is without a cell
abbrev pub IsCatalogue : Nested → Type 0
IsCatalogue = IsNested text_cmp text_cmp

-- what a catalogue keeps: no message is without a cell, and how many cells there are
pub record IsKept (m : Nested) (len : ℕ) : Type 0 where
  pub nested : IsCatalogue m
  pub counted : len ≡ length (flat m)

-- maps of maps that agree, as maps of cells do at each message of both
abbrev pub AgreeNested : Nested → Nested → Type 0
AgreeNested = AgreeMaps text_cmp (AgreeMaps text_cmp AgreeCells)

-- maps of maps, joined: at each message of either the one map of cells, or the two joined
abbrev pub joined_nested : Nested → Nested → Nested
joined_nested = joined_maps text_cmp (joined_maps text_cmp joined_cells)
