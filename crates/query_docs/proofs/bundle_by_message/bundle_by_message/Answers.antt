use Rattle.std.proofs.Common.{subst}
use Rattle.nego_core.specs.Offer.{items_of}
use Rattle.catalogue.specs.EntriesOffered.{offered_cells}
use Rattle.query_docs.specs.inner.BundleByMessage.{default_of}
use Rattle.query_docs.specs.Bundling.{IsBundleBy}
use Rattle.query_docs.specs.declared.bundle_by_message.Bundle.{Bundle}
use Rattle.query_docs.proofs.bundle_by_message.bundle_by_message.Goals as goal

-- the labels are those that are answered for the site that was shown
pub returns : goal.returns
returns c =
    let shown = c.in_ok-shown.ensures in
    let cells = offered_cells (items_of c.args.offer) shown.0 in
    let bundle = c.in_ok-bundle.ensures c.new-2.result.sink cells shown.3.holds in (
      record { name = c.in_ok-shown.field-0-0; cells = shown.0 },
      bundle.labels,
      shown.1,
      subst (λ (t : Bundle). IsBundleBy t.widening cells t.list.now (default_of t) bundle.labels)
          c.new-2.ensures.sink bundle.labels_are,
      c.in_ok-answer.ensures bundle.labels bundle.written bundle.labels_are.ascending,
    )
