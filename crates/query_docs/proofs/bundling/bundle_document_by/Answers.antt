use Rattle.std.proofs.Common.{subst}
use Rattle.std.specs.Prelude.{option_map}
use Rattle.nego_core.specs.Offer.{items_of}
use Rattle.catalogue.specs.Entries.{Entries}
use Rattle.catalogue.specs.EntriesOffered.{offered_cells}
use Rattle.query_docs.specs.Bundling.{IsBundleBy}
use Rattle.query_docs.proofs.bundling.bundle_document_by.Goals as goal

pub returns : goal.returns
returns c =
    let wrote = c.in_ok-answer.ensures in
    let default = option_map (λ l. l.now) c.args.default in (
      c.in_ok-site.site,
      wrote.0,
      c.in_ok-site.ensures,
      subst (λ (cells : Entries). IsBundleBy c.args.widening
          (offered_cells (items_of c.args.offer) cells) c.args.list.now default wrote.0)
          c.catalogue.ensures wrote.1,
      wrote.2,
    )
