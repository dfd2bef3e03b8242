use Rattle.std.specs.Str.{str_to_ascii_lowercase}
use Rattle.lang_core.proofs.RangeText.{extended_answer}
use Rattle.lang_core.proofs.range_syntax.extended_fault.Goals as goal

pub returns : goal.returns
returns c = extended_answer (str_to_ascii_lowercase c.args.text.now) _ c.first_refused.ensures
