use Rattle.std.proofs.Common.{subst, ◌∙◌, ap}
use Rattle.std.specs.Option.{option_map}
use Rattle.catalogue.specs.Asking.{IsLookedUpIn}
use Rattle.catalogue.specs.Reply.{reply_of}
use Rattle.catalogue.specs.Live.{Labelled, live_of}
use Rattle.catalogue.specs.LiveMessages.{LiveMessage}
use Rattle.catalogue.proofs.EntriesOfferedLemmas.{all_labels}
use Rattle.catalogue.proofs.messages.Message.lookup_by.Goals as goal

pub returns : goal.returns
returns c =
    let default = option_map (λ l. l.now) c.args.default in
    let reply = reply_of c.look_up.result in
    subst (λ (shown : Labelled). IsLookedUpIn c.args.widening shown c.args.list.now default reply)
    (c.new.ensures ∙ (all_labels (live_of c.self.inside.cells.now)
    ∙ ap (λ (m : LiveMessage). m.1) c.self.view_is)) c.look_up.ensures
