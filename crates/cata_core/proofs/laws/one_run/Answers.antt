use Rattle.std.proofs.Common.{[]}
use Rattle.catalogue.specs.Edits.{catalogue_of}
use Rattle.cata_core.specs.RunsTaken.{taken}
use Rattle.cata_core.specs.WorldHeld.{held}
use Rattle.cata_core.proofs.AnswerLemmas.{one_by}
use Rattle.cata_core.proofs.laws.one_run.Goals as goal

pub returns-clause-held : goal.returns-clause-held
returns-clause-held c = one_by held []

pub returns-clause-expected : goal.returns-clause-expected
returns-clause-expected c = one_by (λ before site. catalogue_of (taken before site)) []
