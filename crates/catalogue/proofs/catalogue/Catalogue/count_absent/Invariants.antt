use Rattle.std.proofs.Common.{◌≡◌, ◌+◌, ◌≤◌, length}
use Rattle.catalogue.specs.Cells.{cells_left}
use Rattle.catalogue.specs.inner.CatalogueCounts.{count_absent}
use Rattle.catalogue.proofs.catalogue.Catalogue.count_absent.Given as goal

abbrev pub invariant-loop-id : goal.invariant-loop-id
invariant-loop-id l = record {
  counted : l.count + count_absent l.self (cells_left l.id-iterator) ≡ count_absent l.self l.other;
  within : l.count + length (cells_left l.id-iterator) ≤ length l.other;
}
