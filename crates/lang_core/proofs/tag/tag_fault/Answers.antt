use Rattle.std.proofs.Common.{◌≡◌, true, sym, ◌∙◌}
use Rattle.lang_core.specs.Text.{subtags}
use Rattle.lang_core.specs.inner.TagTable.{is_staged}
use Rattle.lang_core.proofs.GrammarLemmas.{staged_is_tag}
use Rattle.lang_core.proofs.tag.tag_fault.Goals as goal

pub returns-then-is_staged : goal.returns-then-is_staged
returns-then-is_staged c =
    let staged : is_staged (subtags c.args.text.now) ≡ true =
    sym c.is_staged.ensures ∙ c.if-is_staged.true in
    staged_is_tag c.args.text.now c.requires staged
