use Rattle.lang_core.proofs.LowerTextLemmas.{IsUtf8-nonzero}
use Rattle.lang_core.proofs.lower_text.ShortText.as_str.Goals as goal

pub from_utf8_unchecked-requires : goal.from_utf8_unchecked-requires
from_utf8_unchecked-requires c = IsUtf8-nonzero _ c.self.invariant.nonzero
