use Rattle.lang_core.proofs.TagText.{tag_nonzero}
use Rattle.lang_core.proofs.tag.Tag.parse.Goals as goal

pub new-requires : goal.new-requires
new-requires c = tag_nonzero _ c.in_default.ensures.1
