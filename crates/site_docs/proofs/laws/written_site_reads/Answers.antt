use Rattle.site_docs.proofs.WritingRoundTrip.{site_again}
use Rattle.site_docs.proofs.laws.written_site_reads.Goals as goal

pub returns : goal.returns
returns c = site_again
