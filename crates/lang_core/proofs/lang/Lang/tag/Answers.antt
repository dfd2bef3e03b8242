use Rattle.std.proofs.Common.{rules, ◌≡◌, sym}
use Rattle.lang_core.specs.Tag.{IsTag}
use Rattle.lang_core.proofs.LangLemmas.{tag_of_tag}
use Rattle.lang_core.proofs.lang.Lang.tag.Goals as goal

pub returns-in-Tagged-clause-value : goal.returns-in-Tagged-clause-value
returns-in-Tagged-clause-value c =
    let tag : IsTag c.in-Tagged.tag = rw c.in-Tagged.is at c.self.invariant in
    let same : c.in-Tagged.tag ≡ c.args.self.now = search rules in
    rw (← same) (sym (tag_of_tag c.in-Tagged.tag tag))
