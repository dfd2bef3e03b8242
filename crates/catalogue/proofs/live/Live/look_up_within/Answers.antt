use Rattle.std.specs.Option.{option_map}
use Rattle.catalogue.specs.Reply.{reply_of}
use Rattle.catalogue.specs.inner.LiveIn.{live_in}
use Rattle.catalogue.proofs.LiveLanguagesLemmas.{chosen_within, of_labels, replied}
use Rattle.catalogue.proofs.live.Live.look_up_within.Goals as goal

pub returns-clause-within : goal.returns-clause-within
returns-clause-within c = λ among.
    let s = c.args.shortlist.now in
    let labels = live_in c.args.self.now in
    let default = option_map (λ l. l.now) c.args.default in
    let chosen = chosen_within s.widening labels s.items default c.choose.result
    (c.choose.ensures.chosen among) in
    replied s.widening labels s.items default c.choose.result (reply_of c.reply.result) chosen
    c.reply.ensures

pub returns-clause-there : goal.returns-clause-there
returns-clause-there c =
    of_labels (live_in c.args.self.now) (option_map (λ l. l.now) c.args.default) c.choose.result
    (reply_of c.reply.result) c.reply.ensures
