use Rattle.front_core.proofs.ArrivalsLemmas.{import_brought}
use Rattle.front_core.proofs.arrivals.of_import.Goals as goal

pub returns : goal.returns
returns c =
    let part = rw c.catalogue-cells.ensures at c.in_ok-add_changed.ensures.part in
    let known =
    rw (
      c.catalogue-was.ensures,
      c.catalogue-cells.ensures,
      c.new-came.ensures,
      c.labels.ensures.labels,
    ) at c.in_ok-add_changed.ensures.known in
    λ now name imports. import_brought now c.args.maps.now c.args.old.now c.args.site.now
    c.add_changed.new.came c.labels.ensures.sorted c.keys_ascend.ensures name imports part known
