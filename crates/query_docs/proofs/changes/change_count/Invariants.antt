use Rattle.catalogue.specs.ChangesLeft.{changes_left}
use Rattle.query_docs.proofs.ChangesLemmas.{IsCounting}
use Rattle.query_docs.proofs.changes.change_count.Given as goal

abbrev pub invariant-loop : goal.invariant-loop
invariant-loop l = IsCounting l.before l.after l.count (changes_left l.iterator')
