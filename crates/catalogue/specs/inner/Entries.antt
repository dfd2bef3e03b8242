-- What `Join` asks of catalogues.
use Rattle.cell_core.specs.Entry.{key_cmp}
use Rattle.cell_core.specs.inner.Entry.{key_cmp_total, key_cmp_exact}
use Rattle.cell_core.specs.Join.{JoinLaws}
use Rattle.cell_core.specs.inner.Cell.{cell_laws}
use Rattle.cell_core.specs.inner.KeyedLaws.{map_laws}
use Rattle.catalogue.specs.Entries.{Agree, joined, Between}

-- catalogues keep the laws of the join
pub catalogue_laws : JoinLaws Agree joined Between
catalogue_laws = map_laws key_cmp key_cmp_total key_cmp_exact cell_laws
