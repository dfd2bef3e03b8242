use Rattle.std.proofs.Common.{rules, sym}
use Rattle.front_core.proofs.RefusalLemmas.{above_has_none}
use Rattle.front_c.proofs.reporting.explained.Goals as goal

pub returns-in-Err : goal.returns-in-Err
returns-in-Err c = sym (above_has_none c.args.number (search rules))
