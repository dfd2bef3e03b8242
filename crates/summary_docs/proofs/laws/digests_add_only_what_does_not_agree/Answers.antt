use Rattle.summary_docs.proofs.ShownDeltaLemmas.{agreeing_delta}
use Rattle.summary_docs.proofs.laws.digests_add_only_what_does_not_agree.Goals as goal

pub returns : goal.returns
returns c = agreeing_delta
