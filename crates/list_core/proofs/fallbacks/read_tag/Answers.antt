use Rattle.std.proofs.Common.{rules}
use Rattle.std.specs.Str.{str_to_ascii_lowercase}
use Rattle.lang_core.proofs.TagRefusedLemmas.{no_tag}
use Rattle.list_core.proofs.fallbacks.read_tag.Goals as goal

pub returns-in-Err : goal.returns-in-Err
returns-in-Err c =
    let none = no_tag (str_to_ascii_lowercase c.args.text.now) c.in-Err.fault in search rules
