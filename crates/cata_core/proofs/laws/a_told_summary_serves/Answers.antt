use Rattle.cata_core.specs.Delta.{summary_of}
use Rattle.cata_core.proofs.WorldHeldGrowsLemmas.{told_serves}
use Rattle.cata_core.proofs.SummaryLemmas.{has_own, has_grown}
use Rattle.cata_core.proofs.laws.a_told_summary_serves.Goals as goal

pub returns-clause-now : goal.returns-clause-now
returns-clause-now c = has_own

pub returns-clause-above : goal.returns-clause-above
returns-clause-above c = has_grown

pub returns-clause-later : goal.returns-clause-later
returns-clause-later c = λ old new below. has_grown old new (summary_of old) (has_own old) below

pub returns-clause-run : goal.returns-clause-run
returns-clause-run c = told_serves
