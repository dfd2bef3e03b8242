use Rattle.cata_core.specs.Delta.{IsPart}
use Rattle.cell_core.specs.Entry.{EntryKey}
use Rattle.front_core.proofs.ArrivalsLemmas.{IsToKnow}
use Rattle.front_core.proofs.arrivals.add_changed.Given as goal

-- the keys of the labels are known, or are those of later labels
abbrev pub invariant-loop-found : goal.invariant-loop-found
invariant-loop-found l = record {
  part : IsPart l.came l.cells;
  known : (q : EntryKey) → IsToKnow l.was l.cells l.labels 0 l.fn.came q
      → IsToKnow l.was l.cells l.labels l.found-index l.came q;
}
