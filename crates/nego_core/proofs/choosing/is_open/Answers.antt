use Rattle.nego_core.proofs.ChoosingLemmas.{open_held, closed}
use Rattle.nego_core.proofs.ChoosingCandidatesLemmas.{held_text}
use Rattle.list_core.specs.Deciding.{NamedRefuse}
use Rattle.lang_core.specs.Text.{pieces}
use Rattle.nego_core.proofs.choosing.is_open.Goals as goal

pub returns-then-holds : goal.returns-then-holds
returns-then-holds g c =
    held_text c.args.list.now (g.H.Holds.held c.args.held.now) c.args.text.now _
    (open_held (NamedRefuse c.args.list.now (pieces c.args.text.now)) _ c.holds.result
    c.named_refuse.result c.holds.ensures c.if-holds.true c.named_refuse.ensures)

pub returns-else-holds : goal.returns-else-holds
returns-else-holds g c =
    held_text c.args.list.now (g.H.Holds.held c.args.held.now) c.args.text.now _
    (closed (NamedRefuse c.args.list.now (pieces c.args.text.now)) _ c.holds.result c.holds.ensures
    c.if-holds.false)
