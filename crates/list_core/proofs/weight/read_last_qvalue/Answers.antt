use Rattle.std.proofs.Common.{rules}
use Rattle.list_core.proofs.WeightLemmas.{last_of_qvalue, not_last}
use Rattle.list_core.proofs.weight.read_last_qvalue.Goals as goal

pub returns-then-not-all_blanks-clause-only : goal.returns-then-not-all_blanks-clause-only
returns-then-not-all_blanks-clause-only c =
    not_last c.args.text.now _ _ c.cut_token.ensures (search rules)

pub returns-clause-only : goal.returns-clause-only
returns-clause-only c =
    last_of_qvalue c.args.text.now _ _ _ c.cut_token.ensures (search rules)
    c.read_qvalue.ensures.only
