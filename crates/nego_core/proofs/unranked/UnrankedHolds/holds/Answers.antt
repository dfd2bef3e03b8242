use Rattle.std.proofs.Common.{sym, ◌∙◌}
use Rattle.nego_core.proofs.UnrankedLemmas.{holds_is}
use Rattle.nego_core.proofs.unranked.UnrankedHolds.holds.Goals as goal

pub returns : goal.returns
returns c =
    rw (sym c.self.view_is) (c.contains_key.ensures
    ∙ holds_is c.args.lang.now c.self.inside.langs.entries)
