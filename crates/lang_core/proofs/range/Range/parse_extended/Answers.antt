use Rattle.lang_core.proofs.RangeText.{extended_nonzero}
use Rattle.lang_core.proofs.range.Range.parse_extended.Goals as goal

pub new-requires : goal.new-requires
new-requires c = extended_nonzero _ c.in_default.ensures
