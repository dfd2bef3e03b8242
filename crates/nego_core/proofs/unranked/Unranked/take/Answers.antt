use Rattle.std.proofs.Common.{sym}
use Rattle.nego_core.proofs.UnrankedLemmas.{still_spelled, take_is}
use Rattle.nego_core.proofs.unranked.Unranked.take.Goals as goal

pub invariant_of-self : goal.invariant_of-self
invariant_of-self c =
    rw c.remove.ensures.entries (still_spelled c.args.text.now c.self.inside.langs.entries
    c.self.invariant)

pub returns : goal.returns
returns c =
    rw (sym c.self.view_is) (take_is c.args.text.now c.self.inside.langs.entries
    c.remove.new.self.entries c.remove.result c.self.invariant c.remove.ensures.value
    c.remove.ensures.entries c.remove.ensures.updates.1 c.remove.ensures.len)
