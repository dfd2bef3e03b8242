use Rattle.std.proofs.Common.{sym, ◌∙◌}
use Rattle.catalogue.specs.inner.LiveIn.{live_in}
use Rattle.catalogue.proofs.LiveLanguagesLemmas.{among_live}
use Rattle.catalogue.proofs.ReplyLemmas.{not_live}
use Rattle.catalogue.proofs.live.Live.reply.Goals as goal

pub unreachable-requires : goal.unreachable-requires
unreachable-requires c =
    let labels = live_in c.args.self.now in
    let text = c.in-Matched.text.now in
    let there = rw c.in-Matched.is at c.requires in
    not_live labels text c.in-None.ensures (sym (among_live labels text) ∙ there)

pub unreachable-requires-in-None-label : goal.unreachable-requires-in-None-label
unreachable-requires-in-None-label c =
    let labels = live_in c.args.self.now in
    let text = c.in-Some-default.default.now in
    let there = rw (c.in-Default.is, c.in-Some-default.is) at c.requires in
    not_live labels text (rw c.as_str.ensures.text at c.in-None-label.ensures)
    (sym (among_live labels text) ∙ there)
