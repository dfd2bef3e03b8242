use Rattle.std.proofs.Common.{◌≡◌, take}
use Rattle.docs_core.specs.ImportingLabels.{puts_of}
use Rattle.docs_core.specs.inner.StampedRows.{HoldsStamped}
use Rattle.docs_core.proofs.call.importing.with_labels.Given as goal

-- the labels so far are written
abbrev pub invariant-loop-found : goal.invariant-loop-found
invariant-loop-found l = record {
  site : l.stamped.site.now ≡ l.fn.site;
  holds : HoldsStamped l.fn.now l.fn.name l.fn.stamps.latest l.stamped
      (puts_of (take l.found-index l.found-items));
}
