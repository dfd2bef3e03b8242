use Rattle.std.specs.Prelude.{map}
use Rattle.nego_core.specs.Filtering.{AreKeys, HasPick}
use Rattle.nego_core.proofs.FilteringKeys.{key_next, none_next, text_within, text_at}
use Rattle.nego_core.proofs.FilteringSome.{pick_given, refused}
use Rattle.nego_core.proofs.filtering.filter_keys_of.Goals as goal
use Rattle.nego_core.proofs.filtering.filter_keys_of.Goals.{in-Some+in_ok-push-in-Some, in-None}

pub returns-in_err-push-in-Some : goal.returns-in_err-push-in-Some
returns-in_err-push-in-Some g c =
    let text = g.L.AsLang.text in
    let langs = c.args.langs.now in
    refused
    (λ keys. AreKeys c.args.scheme c.args.list.now 0 (map text langs) keys.items)
    (HasPick c.args.scheme c.args.list.now (map text langs)) c.from_residual.result
    c.from_residual.ensures.0
    (pick_given c.args.scheme c.args.list.now text langs c.loop-place.place
    c.index-langs-place.result c.in-Some.key c.loop-place-test.true
    c.index-langs-place.is (rw c.as_lang.ensures at c.in-Some.ensures))

-- The keys are those of the languages before the place: the next language has a key, which is
-- pushed last, or it has none.
pub loop-place-preserved : goal.loop-place-preserved
loop-place-preserved g c =
    let text = g.L.AsLang.text in
    let langs = c.args.langs.now in
    let within = text_within text langs c.loop-place.place c.loop-place-test.true in
    let here =
    text_at text langs c.loop-place.place c.index-langs-place.result c.loop-place-test.true
    c.index-langs-place.is in
    elim c.match-filter_key_of.branch [
      | in-Some+in_ok-push-in-Some w ↦
          rw (w.keys-is, w.in_ok-push-in-Some.ensures.items)
          (key_next _ _ (map text langs) _ _ _ _ within here c.loop-place.invariant
          (rw c.as_lang.ensures at w.in-Some.ensures))
      | in-None w ↦
          rw w.keys-is
          (none_next _ _ (map text langs) _ _ _ within here c.loop-place.invariant
          (rw c.as_lang.ensures at w.in-None.ensures))
    ]
