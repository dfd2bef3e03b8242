use Rattle.std.proofs.Common.{Some, None, get_or, ◌+◌, arith}
use Rattle.lang_core.specs.Text.{pieces}
use Rattle.list_core.specs.declared.lookup_order.OrderKey.{OrderKey}
use Rattle.list_core.proofs.Basics.{same_default}
use Rattle.nego_core.proofs.WideningEarliestLemmas.{IsFrom, candidate_at, earliest_at, none_at}
use Rattle.nego_core.proofs.WideningLemmas.{key_found, key_passed, keys_over, looked_up}
use Rattle.nego_core.proofs.widened_choice.look_up_widened.Goals as goal
use Rattle.nego_core.proofs.widened_choice.look_up_widened.Goals.{in-None-earliest}
use Rattle.nego_core.proofs.widened_choice.look_up_widened.Goals.{in-Some-earliest+else-found-at}

abbrev zero : OrderKey
zero = record { missing_weight = 0; place = 0 }

pub returns-in-Some : goal.returns-in-Some
returns-in-Some g c =
    let items = c.args.list.now in
    let langs = g.L.Languages.texts c.args.langs.now in
    let keys = c.order-keys.result.now in
    let text = pieces c.in-Some.text.now in
    let key = get_or keys c.loop-at.at zero in
    let here = candidate_at c.args.scheme items langs key.place text c.in-Some.ensures in
    let found = key_found c.args.scheme items langs keys c.loop-at.at zero text
    c.loop-at-test.true here in
    looked_up c.args.scheme items langs keys _ c.order-keys.ensures
    (c.loop-at.invariant.2 (Some text) found)

-- No candidate up to here is open, so the earliest language is what the key at its place finds.
pub returns-then-found-at : goal.returns-then-found-at
returns-then-found-at g c =
    let scheme = c.args.scheme in
    let items = c.args.list.now in
    let langs = g.L.Languages.texts c.args.langs.now in
    let keys = c.order-keys.result.now in
    let low = c.loop-at-test.true in
    let key = get_or keys c.loop-at.at zero in
    let best = rw c.in-Some-earliest.is at c.loop-at.invariant.0 in
    let here = earliest_at scheme items langs keys c.loop-at.at key c.in-Some-earliest.found low
    (same_default keys c.loop-at.at zero key low) c.order-keys.ensures best c.if-found-at.true
    c.in-None.ensures in
    let found = key_found scheme items langs keys c.loop-at.at zero
    (pieces c.in-Some-earliest.found.lang.now) low here in
    rw c.as_str.ensures.text (looked_up scheme items langs keys _ c.order-keys.ensures
    (c.loop-at.invariant.2 (Some (pieces c.in-Some-earliest.found.lang.now)) found))

-- The earliest language comes later, so the key, no candidate of which is open, finds nothing.
pub loop-at-preserved : goal.loop-at-preserved
loop-at-preserved g c =
    let scheme = c.args.scheme in
    let items = c.args.list.now in
    let langs = g.L.Languages.texts c.args.langs.now in
    let keys = c.order-keys.result.now in
    let at = c.loop-at.at in
    let low = c.loop-at-test.true in
    let key = get_or keys at zero in
    let later : IsFrom (at + 1) c.loop-at.earliest-1 = elim c.match-earliest.branch [
      | in-Some-earliest+else-found-at w ↦
          rw w.in-Some-earliest.is
          (let from = rw w.in-Some-earliest.is at c.loop-at.invariant.1 in
          let other = w.if-found-at.false in grind arith)
      | in-None-earliest w ↦ rw w.in-None-earliest.is tt
    ] in
    let none = none_at scheme items langs keys at key c.loop-at.earliest-1 low
    (same_default keys at zero key low) c.order-keys.ensures c.loop-at.invariant.0 later
    c.in-None.ensures in (
      c.loop-at.invariant.0,
      later,
      λ found f.
          c.loop-at.invariant.2 found
          (key_passed scheme items langs keys at zero found low none f),
    )

pub returns : goal.returns
returns g c =
    let scheme = c.args.scheme in
    let items = c.args.list.now in
    let langs = g.L.Languages.texts c.args.langs.now in
    let keys = c.order-keys.result.now in
    let over = keys_over scheme items langs keys c.loop-at.at c.loop-at-test.false in
    looked_up scheme items langs keys _ c.order-keys.ensures (c.loop-at.invariant.2 None over)
