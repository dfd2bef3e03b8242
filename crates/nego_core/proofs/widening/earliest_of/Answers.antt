use Rattle.std.specs.Prelude.{map}
use Rattle.nego_core.proofs.WideningEarliestLemmas.{earliest_next}
use Rattle.nego_core.proofs.FilteringKeys.{text_at, text_within}
use Rattle.nego_core.proofs.widening.earliest_of.Goals as goal

pub loop-lang-preserved : goal.loop-lang-preserved
loop-lang-preserved g c =
    let text = g.L.AsLang.text in
    let langs = c.args.langs.now in
    let k = c.loop-lang.lang-index in
    let low = text_within text langs k c.loop-lang-test.true in
    let here = text_at text langs k c.lang-item.result c.loop-lang-test.true c.lang-item.is in
    earliest_next c.args.ranges.now.scheme c.args.ranges.now.list.now (map text langs) k (text
    c.lang-item.result)
    c.loop-lang.earliest c.earlier-earliest.result low here c.loop-lang.invariant
    (rw c.as_lang.ensures at c.earlier-earliest.ensures)
