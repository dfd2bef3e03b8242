use Rattle.std.proofs.Common.{sym, ◌∙◌}
use Rattle.catalogue.specs.inner.LiveIn.{live_in}
use Rattle.catalogue.proofs.LiveLanguagesLemmas.{among_live}
use Rattle.catalogue.proofs.ReplyLemmas.{is_there}
use Rattle.catalogue.proofs.live.LiveLanguages.has.Goals as goal

pub returns : goal.returns
returns c =
    let labels = live_in c.args.self.now in
    c.is_some.ensures ∙ (is_there labels c.args.lang.now c.label.result c.label.ensures
    ∙ sym (among_live labels c.args.lang.now))
