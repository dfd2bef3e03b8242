use Rattle.std.proofs.Common.{subst}
use Rattle.std.specs.Prelude.{List, IfOk, option_map}
use Rattle.nego_core.specs.declared.widening.Widening.TheVariants.{Off}
use Rattle.catalogue.specs.Entries.{Entries}
use Rattle.catalogue.proofs.EntriesOfferedLemmas.{all_cells}
use Rattle.map_docs.specs.WritingTexts.{AreWritten}
use Rattle.map_docs.specs.Maps.{Labelled}
use Rattle.query_docs.specs.Bundling.{IsBundleBy}
use Rattle.query_docs.proofs.bundling.write_bundle.Goals as goal

pub returns : goal.returns
returns c =
    let default = option_map (λ l. l.now) c.args.default in
    subst (λ (cells : Entries). IfOk c.write_bundle_by.result (λ written. (labels : List Labelled)
    × IsBundleBy Off cells c.args.list.now default labels × AreWritten labels written.0 written.1))
    (all_cells c.args.catalogue.now) c.write_bundle_by.ensures
