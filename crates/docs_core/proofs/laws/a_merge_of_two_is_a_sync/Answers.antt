use Rattle.docs_core.proofs.MergingLaws.{two_merged, two_refusals}
use Rattle.docs_core.proofs.laws.a_merge_of_two_is_a_sync.Goals as goal

pub returns-clause-synced : goal.returns-clause-synced
returns-clause-synced c = λ checks input a b x y are. two_merged input a b are checks x y

pub returns-clause-refused : goal.returns-clause-refused
returns-clause-refused c = λ input a b fault are. two_refusals input a b are fault
