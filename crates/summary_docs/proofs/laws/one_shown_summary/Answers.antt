use Rattle.summary_docs.proofs.ReadingLemmas.{one_shown, plain_reads}
use Rattle.summary_docs.proofs.laws.one_shown_summary.Goals as goal

pub returns-clause-one : goal.returns-clause-one
returns-clause-one c = one_shown

pub returns-clause-plain : goal.returns-clause-plain
returns-clause-plain c = plain_reads
