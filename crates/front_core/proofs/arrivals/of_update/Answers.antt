use Rattle.front_core.proofs.ArrivalsLemmas.{update_brought}
use Rattle.front_core.proofs.arrivals.of_update.Goals as goal

-- the keys of the labels before are known first, and then those of the labels after
pub returns : goal.returns
returns c =
    let part = rw c.catalogue-cells.ensures at c.in_ok-add_changed-2.ensures.part in
    let first =
    rw (
      c.catalogue-was.ensures,
      c.catalogue-cells.ensures,
      c.new-came.ensures,
      c.labels.ensures.labels,
    ) at c.in_ok-add_changed.ensures.known in
    let known =
    rw (c.catalogue-was.ensures, c.catalogue-cells.ensures, c.labels-2.ensures.labels) at
    c.in_ok-add_changed-2.ensures.known in
    λ now name updates. update_brought now c.args.before.now c.args.after.now c.args.old.now
    c.args.site.now c.add_changed.new.came c.add_changed-2.new.came c.keys_ascend.ensures name
    updates part first known
