use Rattle.std.proofs.Common.{rules, ◌≡◌, sym}
use Rattle.lang_core.specs.Tag.{IsTag}
use Rattle.lang_core.proofs.LangLemmas.{tag_of_tag}
use Rattle.lang_core.proofs.lang.Lang.into_tag.Goals as goal

pub returns-in-Tagged : goal.returns-in-Tagged
returns-in-Tagged c =
    let tag : IsTag c.in-Tagged.owned = rw c.in-Tagged.is at c.self.invariant in
    let same : c.in-Tagged.owned ≡ c.args.self = search rules in
    rw (← same, c.in-Tagged.is) (sym (tag_of_tag c.in-Tagged.owned tag))
