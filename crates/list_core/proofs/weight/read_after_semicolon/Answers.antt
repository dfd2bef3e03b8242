use Rattle.list_core.proofs.WeightLemmas.{semicolon_of_named}
use Rattle.list_core.proofs.weight.read_after_semicolon.Goals as goal

pub returns-clause-only : goal.returns-clause-only
returns-clause-only c =
    semicolon_of_named c.args.text.now _ (rw c.trim_start.ensures at c.read_named.ensures.only)
