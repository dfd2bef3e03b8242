use Rattle.std.proofs.Common.{Some, None}
use Rattle.lang_core.specs.Text.{pieces}
use Rattle.nego_core.specs.Choosing.{IsOpen}
use Rattle.list_core.specs.declared.lookup_order.OrderKey.{OrderKey}
use Rattle.nego_core.proofs.ChoosingCandidatesLemmas.{key_found, key_passed, keys_over, looked_up}
use Rattle.nego_core.proofs.choosing.look_up.Goals as goal

abbrev zero : OrderKey
zero = record { missing_weight = 0; place = 0 }

pub returns-in-Some : goal.returns-in-Some
returns-in-Some g c =
    let passes = IsOpen c.args.list.now (g.H.Holds.held c.args.held.now) in
    looked_up c.args.list.now (g.H.Holds.held c.args.held.now) c.order-keys.result.now _
    c.order-keys.ensures
    (c.loop-key.invariant (Some (pieces c.in-Some.text.now))
    (key_found passes c.args.list.now c.order-keys.result.now c.loop-key.key-index zero
    (pieces c.in-Some.text.now) c.loop-key-test.true c.in-Some.ensures))

pub loop-key-preserved : goal.loop-key-preserved
loop-key-preserved g c =
    λ found f.
    c.loop-key.invariant found
    (key_passed (IsOpen c.args.list.now (g.H.Holds.held c.args.held.now)) c.args.list.now
    c.order-keys.result.now c.loop-key.key-index zero found c.loop-key-test.true c.in-None.ensures
    f)

pub returns : goal.returns
returns g c =
    looked_up c.args.list.now (g.H.Holds.held c.args.held.now) c.order-keys.result.now _
    c.order-keys.ensures
    (c.loop-key.invariant None
    (keys_over (IsOpen c.args.list.now (g.H.Holds.held c.args.held.now)) c.args.list.now
    c.order-keys.result.now c.loop-key.key-index c.loop-key-test.false))
