use Rattle.std.proofs.Common.{sym, ◌∙◌}
use Rattle.std.specs.Prelude.{map}
use Rattle.nego_core.proofs.FilteringKeys.{text_within, text_at}
use Rattle.nego_core.proofs.WideningLemmas.{place_here, place_passed}
use Rattle.nego_core.proofs.widening.place_among.Goals as goal

pub returns-then-eq : goal.returns-then-eq
returns-then-eq g c =
    let text = g.L.AsLang.text in
    let langs = c.args.langs.now in
    let same = rw (c.as_str.ensures.text, c.as_lang.ensures) at c.eq.ensures in
    place_here (map text langs) c.args.text.now c.loop-place.place (text c.index-langs-place.result)
    (text_within text langs c.loop-place.place c.loop-place-test.true)
    (text_at text langs c.loop-place.place c.index-langs-place.result c.loop-place-test.true
    c.index-langs-place.is) c.loop-place.invariant (sym same ∙ c.if-eq.true)

pub loop-place-preserved : goal.loop-place-preserved
loop-place-preserved g c =
    let text = g.L.AsLang.text in
    let langs = c.args.langs.now in
    let same = rw (c.as_str.ensures.text, c.as_lang.ensures) at c.eq.ensures in
    place_passed (map text langs) c.args.text.now c.loop-place.place
    (text c.index-langs-place.result)
    (text_within text langs c.loop-place.place c.loop-place-test.true)
    (text_at text langs c.loop-place.place c.index-langs-place.result c.loop-place-test.true
    c.index-langs-place.is) c.loop-place.invariant (sym same ∙ c.if-eq.false)
