use Rattle.std.proofs.Common.{◌≡◌, List, Option, [], take, ℕ}
use Rattle.cell_core.specs.declared.stamp.Stamp.{Stamp}
use Rattle.docs_core.specs.inner.FoundChanges.{changes_of}
use Rattle.docs_core.specs.inner.StampedRows.{HoldsStamped}
use Rattle.docs_core.proofs.call.updating.with_changes.Given as goal

-- the changes so far are written
abbrev pub invariant-loop-change : goal.invariant-loop-change
invariant-loop-change l = record {
  site : l.stamped.site.now ≡ l.fn.stamped.site.now;
  holds : (now : ℕ) (name : List ℕ) (last : Option Stamp)
      → HoldsStamped now name last l.fn.stamped []
      → HoldsStamped now name last l.stamped (changes_of (take l.change-index l.changes));
}
