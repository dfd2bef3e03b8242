use Rattle.std.proofs.Common.{List, ℕ, refl}
use Rattle.std.specs.Borrow.{Bor}
use Rattle.std.specs.Prelude.{is_some}
use Rattle.nego_core.specs.Filtering.{texts_of}
use Rattle.nego_core.proofs.FilteringKeys.{text_at, text_within}
use Rattle.nego_core.proofs.UnrankedLemmas.{first_next, one_more}
use Rattle.nego_core.proofs.unranked.Unranked.new.Goals as goal

pub loop-lang-preserved : goal.loop-lang-preserved
loop-lang-preserved c =
    let langs = c.args.langs.now in
    let text : Bor (List ℕ) → List ℕ = λ b. b.now in
    let k = c.loop-lang.lang-index in
    let lang = c.lang-item.result in
    let low = text_within text langs k c.loop-lang-test.true in
    let here = text_at text langs k lang c.loop-lang-test.true c.lang-item.is in
    first_next (texts_of langs) k lang.now c.loop-lang.left.entries c.insert.new.self.entries
    c.as_str.result lang low here c.as_str.ensures.text refl c.in-Ok.ensures.entries
    (one_more (is_some c.in-Ok.field-0) _ _ c.in-Ok.ensures.len) c.loop-lang.invariant
