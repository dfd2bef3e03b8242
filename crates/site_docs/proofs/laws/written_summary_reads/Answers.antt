use Rattle.site_docs.proofs.WritingRoundTrip.{summary_again}
use Rattle.site_docs.proofs.laws.written_summary_reads.Goals as goal

pub returns : goal.returns
returns c = summary_again
