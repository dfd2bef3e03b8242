use Rattle.docs_core.proofs.ReplayingLemmas.{played_or_refused}
use Rattle.docs_core.proofs.call.replaying.answers_of.Goals as goal

pub returns : goal.returns
returns c =
    let e = c.play.ensures in
    played_or_refused c.play.result c.args.script.now
    (rw (c.sites.ensures.value, c.steps.ensures) at e.sound)
    (rw c.steps.ensures at e.held)
    (rw c.steps.ensures at e.consistent)
    (rw c.steps.ensures at e.undelivered)
    (rw (c.sites.ensures.value, c.steps.ensures) at e.fault)
    (rw c.steps.ensures at e.no_clash)
