use Rattle.std.proofs.Common.{subst}
use Rattle.std.specs.Prelude.{IfOk}
use Rattle.catalogue.specs.Asking.{IsFilterAnswer}
use Rattle.catalogue.specs.Entries.{Entries}
use Rattle.catalogue.proofs.EntriesOfferedLemmas.{all_cells}
use Rattle.catalogue.proofs.catalogue.Catalogue.ask_filter.Goals as goal

pub returns : goal.returns
returns c =
    subst (λ (cells : Entries). IfOk c.ask_filter_by.result
    (IsFilterAnswer cells c.args.id.now c.args.scheme c.args.list.now)) (all_cells c.args.self.now)
    c.ask_filter_by.ensures
