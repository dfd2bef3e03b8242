use Rattle.std.proofs.Common.{subst}
use Rattle.std.specs.Option.{option_map}
use Rattle.catalogue.specs.Asking.{IsLookedUpIn}
use Rattle.catalogue.specs.Reply.{reply_of}
use Rattle.catalogue.specs.Live.{Labelled}
use Rattle.catalogue.proofs.catalogue.Catalogue.ask_lookup_by.Goals as goal

pub returns : goal.returns
returns c =
    let default = option_map (λ l. l.now) c.args.default in
    let reply = reply_of c.look_up.result in
    subst (λ (l : Labelled). IsLookedUpIn c.args.widening l c.args.list.now default reply)
    c.live.ensures c.look_up.ensures
