use Rattle.std.proofs.Common.{Some, None, sym, ◌∙◌}
use Rattle.std.proofs.lemmas.List.Elements.{All-nil}
use Rattle.lang_core.specs.Text.{pieces}
use Rattle.nego_core.specs.Choosing.{IsOpen}
use Rattle.list_core.proofs.Basics.{false_true}
use Rattle.nego_core.proofs.ChoosingCandidatesLemmas.{first_here, first_later}
use Rattle.nego_core.proofs.choosing.first_of.Goals as goal

pub returns-then-is_open : goal.returns-then-is_open
returns-then-is_open g c =
    c.loop-text.invariant (Some (pieces c.in-Some.text.now))
    (rw c.in-Some.ensures.steps
    (first_here (IsOpen c.args.list.now (g.H.Holds.held c.args.held.now)) _ _
    (c.is_open.ensures.0 c.if-is_open.true)))

pub loop-text-preserved : goal.loop-text-preserved
loop-text-preserved g c =
    λ found f.
    c.loop-text.invariant found
    (rw c.in-Some.ensures.steps
    (first_later (IsOpen c.args.list.now (g.H.Holds.held c.args.held.now)) _ _ found
    (λ o. false_true (sym c.if-is_open.false ∙ c.is_open.ensures.1 o)) f))

pub returns : goal.returns
returns g c =
    c.loop-text.invariant None
    (rw c.in-None.ensures.steps.0
    (All-nil (λ y. ¬ IsOpen c.args.list.now (g.H.Holds.held c.args.held.now) y)))
