use Rattle.std.proofs.lemmas.Str.{IsUtf8-from_ascii}
use Rattle.lang_core.proofs.lower_text.lower_long.Goals as goal

pub from_utf8_unchecked-text-requires : goal.from_utf8_unchecked-text-requires
from_utf8_unchecked-text-requires c = IsUtf8-from_ascii c.args.bytes.now c.requires
