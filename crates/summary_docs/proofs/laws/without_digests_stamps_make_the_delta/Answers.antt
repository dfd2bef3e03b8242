use Rattle.summary_docs.proofs.ShownDeltaLemmas.{plain_delta}
use Rattle.summary_docs.proofs.laws.without_digests_stamps_make_the_delta.Goals as goal

pub returns : goal.returns
returns c = plain_delta
