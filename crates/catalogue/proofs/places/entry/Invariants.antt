use Rattle.std.proofs.Common.{◌≡◌}
use Rattle.std.specs.Prelude.{slice_get}
use Rattle.cell_core.specs.Iter.{entries_left}
use Rattle.catalogue.specs.CatalogueFlat.{flat}
use Rattle.catalogue.proofs.places.entry.Given as goal

abbrev pub invariant-loop-id : goal.invariant-loop-id
invariant-loop-id l =
    slice_get (flat (entries_left l.id-iterator)) l.left ≡ slice_get (flat l.map) l.place
