use Rattle.std.specs.Option.{option_map}
use Rattle.catalogue.specs.Reply.{reply_of}
use Rattle.catalogue.specs.inner.LiveIn.{live_in}
use Rattle.catalogue.proofs.LiveLanguagesLemmas.{chosen_there, replied}
use Rattle.catalogue.proofs.live.Live.look_up.Goals as goal

pub reply-requires : goal.reply-requires
reply-requires c =
    chosen_there c.args.widening (live_in c.args.self.now) c.args.list.now
    (option_map (λ l. l.now) c.args.default) c.choose.result c.choose.ensures

pub returns : goal.returns
returns c =
    replied c.args.widening (live_in c.args.self.now) c.args.list.now
    (option_map (λ l. l.now) c.args.default) c.choose.result (reply_of c.reply.result)
    c.choose.ensures c.reply.ensures
