use Rattle.std.proofs.Common.{◌∙◌, ap}
use Rattle.lang_core.specs.Text.{pieces}
use Rattle.list_core.specs.Item.{first_byte}
use Rattle.list_core.specs.Item.{Item}
use Rattle.list_core.specs.declared.scheme.Scheme.TheVariants.{Extended}
use Rattle.list_core.proofs.ItemLemmas.{other_first}
use Rattle.list_core.proofs.item.Item.matches_packed.Goals as goal

pub returns-then-self-ne42 : goal.returns-then-self-ne42
returns-then-self-ne42 c =
    other_first Extended c.args.self.now.range c.args.tag.now c.self.inside.first c.args.first
    (c.self.invariant.2 ∙ ap (λ (i : Item). first_byte (pieces i.range)) c.self.view_is) c.requires
    c.if-self-first.true c.if-self-ne42.true
