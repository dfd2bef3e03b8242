use Rattle.std.specs.Prelude.{option_map}
use Rattle.query_docs.proofs.BundlingLemmas.{bundled_result}
use Rattle.query_docs.proofs.bundling.bundle_document.Goals as goal

pub returns : goal.returns
returns c =
    bundled_result c.args.site.now c.args.list.now (option_map (λ l. l.now) c.args.default)
    c.bundle_document_by.result _ c.bundle_document_by.ensures
