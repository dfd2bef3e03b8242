use Rattle.std.proofs.Common.{Some, None, sym, ◌∙◌}
use Rattle.nego_core.specs.Shortlist.{IsOneOf}
use Rattle.list_core.proofs.Basics.{false_true}
use Rattle.nego_core.proofs.ShortlistLemmas.{lang_here, lang_passed, langs_over}
use Rattle.nego_core.proofs.shortlist.first_among.Goals as goal

pub returns-then-has : goal.returns-then-has
returns-then-has g c =
    let one = IsOneOf (g.L.Languages.texts c.args.langs.now) in
    let lang = c.lang-item.result in
    let has = rw c.as_str.ensures.text at c.has.ensures in
    c.loop-lang.invariant (Some lang.now) (lang_here one c.args.ranked.now c.loop-lang.lang-index
    lang c.loop-lang-test.true c.lang-item.is (sym has ∙ c.if-has.true))

pub loop-lang-preserved : goal.loop-lang-preserved
loop-lang-preserved g c = λ found f.
    let one = IsOneOf (g.L.Languages.texts c.args.langs.now) in
    let lang = c.lang-item.result in
    let has = rw c.as_str.ensures.text at c.has.ensures in
    c.loop-lang.invariant found (lang_passed one c.args.ranked.now c.loop-lang.lang-index lang
    found c.loop-lang-test.true c.lang-item.is
    (λ o. false_true (sym c.if-has.false ∙ (has ∙ o))) f)

pub returns : goal.returns
returns g c =
    let one = IsOneOf (g.L.Languages.texts c.args.langs.now) in
    c.loop-lang.invariant None (langs_over one c.args.ranked.now c.loop-lang.lang-index
    c.loop-lang-test.false)
