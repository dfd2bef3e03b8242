use Rattle.std.proofs.Common.{◌≡◌, take}
use Rattle.docs_core.specs.ImportingLabels.{Imports}
use Rattle.docs_core.proofs.call.importing.put_labels.Given as goal

-- the labels so far are put
abbrev pub invariant-loop-found : goal.invariant-loop-found
invariant-loop-found l = record {
  name : l.site.name ≡ l.fn.site.name;
  put : Imports l.now l.fn.site.name (take l.found-index l.found-items)
      l.fn.site.cells l.site.cells;
}
