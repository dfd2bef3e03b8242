use Rattle.nego_core.specs.Choosing.{IsOpen}
use Rattle.nego_core.proofs.ChoosingCandidatesLemmas.{no_candidates, item_candidates}
use Rattle.nego_core.proofs.choosing.first_at.Goals as goal

pub returns-then-place-items : goal.returns-then-place-items
returns-then-place-items g c =
    no_candidates (IsOpen c.args.list.now (g.H.Holds.held c.args.held.now)) c.args.list.now
    c.args.place (rw c.items-items.ensures.items at c.if-place-items.true)

pub returns : goal.returns
returns g c =
    item_candidates (IsOpen c.args.list.now (g.H.Holds.held c.args.held.now)) c.args.list.now
    c.args.place c.index-items-place.result _
    (rw c.items-items.ensures.items at c.if-place-items.false)
    (rw c.items-items.ensures.items at c.index-items-place.is)
    c.first_of.ensures
