use Rattle.catalogue.specs.Changes.{AreChanges, Changed}
use Rattle.catalogue.specs.ChangesLeft.{changes_left}
use Rattle.query_docs.proofs.ChangesLemmas.{IsListing}
use Rattle.query_docs.proofs.changes.changes_lines.Given as goal

-- with the lines of the changes that are left it comes to all
abbrev pub invariant-loop-change : goal.invariant-loop-change
invariant-loop-change l =
    (changes : Changed) → AreChanges l.before l.after changes
    → IsListing changes l.written (changes_left l.change-iterator)
