use Rattle.map_docs.proofs.WritingTripLemmas.{reads_back}
use Rattle.map_docs.proofs.laws.reads_back.Goals as goal

pub returns : goal.returns
returns c = reads_back
