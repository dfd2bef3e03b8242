use Rattle.std.proofs.Common.{◌≡◌, take}
use Rattle.catalogue.specs.Asking.{picked}
use Rattle.catalogue.specs.EntriesBorrowed.{weighed_of}
use Rattle.catalogue.specs.inner.EntriesBorrowed.{labelled_of}
use Rattle.catalogue.proofs.entries.pick_all.Given as goal

abbrev pub invariant-loop-place : goal.invariant-loop-place
invariant-loop-place l =
    weighed_of l.items.items ≡ picked (labelled_of l.labels) (take l.place l.picks)
