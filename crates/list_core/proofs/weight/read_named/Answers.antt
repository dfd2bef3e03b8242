use Rattle.std.proofs.Common.{rules, arith}
use Rattle.list_core.proofs.WeightLemmas.{named_from}
use Rattle.list_core.proofs.weight.read_named.Goals as goal

pub returns-in-113-clause-only : goal.returns-in-113-clause-only
returns-in-113-clause-only c =
    named_from c.args.text.now _ (omega arith) (search rules) (search rules)
    c.read_last_qvalue.ensures.only
