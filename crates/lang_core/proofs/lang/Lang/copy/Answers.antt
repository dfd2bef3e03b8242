use Rattle.std.proofs.Common.{rules, ◌≡◌, ◌∙◌}
use Rattle.lang_core.specs.Tag.{IsTag}
use Rattle.lang_core.proofs.LangLemmas.{tag_not_none}
use Rattle.lang_core.proofs.lang.Lang.copy.Goals as goal

pub returns-in_err-copy-in-Tagged-clause-none : goal.returns-in_err-copy-in-Tagged-clause-none
returns-in_err-copy-in-Tagged-clause-none c =
    let tag : IsTag c.in-Tagged.tag = rw c.in-Tagged.is at c.self.invariant in
    let same : c.in-Tagged.tag ≡ c.args.self.now = search rules in
    λ none. absurd (tag_not_none c.in-Tagged.tag tag (same ∙ none))
