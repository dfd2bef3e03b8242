-- Maps of maps: how many cells they have, and what lies between two.
use Rattle.std.specs.Prelude.{◌<◌, length}
use Rattle.cell_core.specs.Cell.{joined_cells}
use Rattle.cell_core.specs.StampLater.{IsEitherOf}
use Rattle.cell_core.specs.Keyed.{BetweenMaps}
use Rattle.cell_core.specs.Entry.{text_cmp}
use Rattle.catalogue.specs.CatalogueFlat.{flat}
use Rattle.catalogue.specs.CatalogueNested.{Nested}

-- so few cells that a number of 128 bits counts them
abbrev pub IsCountable : Nested → Type 0
IsCountable m = length (flat m) < 340282366920938463463374607431768211456

-- a map of maps on the way from the first to its join with the last
abbrev pub BetweenNested : Nested → Nested → Nested → Type 0
BetweenNested = BetweenMaps text_cmp (BetweenMaps text_cmp (IsEitherOf joined_cells))
