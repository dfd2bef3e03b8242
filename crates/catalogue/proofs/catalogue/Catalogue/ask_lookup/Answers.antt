use Rattle.std.proofs.Common.{subst}
use Rattle.std.specs.Option.{option_map}
use Rattle.nego_core.specs.declared.widening.Widening.TheVariants.{Off}
use Rattle.catalogue.specs.Asking.{IsLookupAnswerBy}
use Rattle.catalogue.specs.Entries.{Entries}
use Rattle.catalogue.specs.Reply.{reply_of}
use Rattle.catalogue.proofs.EntriesOfferedLemmas.{all_cells}
use Rattle.catalogue.proofs.catalogue.Catalogue.ask_lookup.Goals as goal

pub returns : goal.returns
returns c =
    let default = option_map (λ l. l.now) c.args.default in
    let reply = reply_of c.ask_lookup_by.result in
    subst (λ (cells : Entries). IsLookupAnswerBy Off cells c.args.id.now c.args.list.now default
    reply) (all_cells c.args.self.now) c.ask_lookup_by.ensures
