use Rattle.site_docs.proofs.WritingRoundTrip.{delta_again}
use Rattle.site_docs.proofs.laws.written_delta_reads.Goals as goal

pub returns : goal.returns
returns c = delta_again
