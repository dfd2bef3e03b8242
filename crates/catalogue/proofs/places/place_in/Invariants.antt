use Rattle.std.proofs.Common.{◌≡◌, ◌+◌, length}
use Rattle.cell_core.specs.Iter.{entries_left}
use Rattle.cell_core.specs.inner.KeyedPlaces.{place_of}
use Rattle.cell_core.specs.Entry.{text_cmp}
use Rattle.catalogue.proofs.places.place_in.Given as goal

abbrev pub invariant-loop-key : goal.invariant-loop-key
invariant-loop-key l =
    (l.place + place_of text_cmp l.lang (entries_left l.key-iterator)
    ≡ place_of text_cmp l.lang l.cells)
    × (l.place + length (entries_left l.key-iterator) ≡ length l.cells)
