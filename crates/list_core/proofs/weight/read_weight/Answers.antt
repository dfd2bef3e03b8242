use Rattle.std.proofs.Common.{rules}
use Rattle.list_core.proofs.WeightLemmas.{no_weight, other_byte, semicolon}
use Rattle.list_core.proofs.weight.read_weight.Goals as goal

pub returns-in-empty-clause-only : goal.returns-in-empty-clause-only
returns-in-empty-clause-only c =
    no_weight c.args.text.now _ c.trim_start.ensures c.in-empty.len_below

pub returns-in-59-clause-only : goal.returns-in-59-clause-only
returns-in-59-clause-only c =
    semicolon c.args.text.now _ _ c.trim_start.ensures c.in-59.len_at_least (search rules)
    c.read_after_semicolon.ensures.only

pub returns-in_default-clause-only : goal.returns-in_default-clause-only
returns-in_default-clause-only c =
    other_byte c.args.text.now _ c.trim_start.ensures c.in_default.len_at_least (search rules)
