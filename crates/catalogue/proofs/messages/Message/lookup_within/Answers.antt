use Rattle.std.proofs.Common.{subst, ◌∙◌, ap}
use Rattle.std.specs.Option.{option_map}
use Rattle.nego_core.specs.Offer.{items_of}
use Rattle.nego_core.specs.Shortlist.{AreAmong}
use Rattle.catalogue.specs.Asking.{IsLookedUpIn}
use Rattle.catalogue.specs.EntriesOffered.{offered_labels}
use Rattle.catalogue.specs.LiveReplies.{IsOfLabels}
use Rattle.catalogue.specs.Reply.{reply_of}
use Rattle.catalogue.specs.Live.{Labelled, languages}
use Rattle.catalogue.specs.LiveMessages.{LiveMessage}
use Rattle.catalogue.proofs.EntriesOfferedLemmas.{offered_among}
use Rattle.catalogue.proofs.messages.Message.lookup_within.Goals as goal

pub returns-clause-within : goal.returns-clause-within
returns-clause-within c = λ among.
    let s = c.args.shortlist.now in
    let offer = items_of c.args.offer in
    let labels = c.args.self.now.1 in
    let default = option_map (λ l. l.now) c.args.default in
    let reply = reply_of c.look_up_within.result in
    (subst (λ (shown : Labelled). AreAmong (languages shown) s.langs
    → IsLookedUpIn s.widening shown s.items default reply)
    (c.new.ensures ∙ ap (λ (m : LiveMessage). offered_labels offer m.1) c.self.view_is)
    c.look_up_within.ensures.within) (offered_among offer labels s.langs among)

pub returns-clause-there : goal.returns-clause-there
returns-clause-there c =
    let offer = items_of c.args.offer in
    subst (λ (shown : Labelled). IsOfLabels shown (reply_of c.look_up_within.result))
    (c.new.ensures ∙ ap (λ (m : LiveMessage). offered_labels offer m.1) c.self.view_is)
    c.look_up_within.ensures.there
