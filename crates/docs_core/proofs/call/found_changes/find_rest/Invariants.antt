use Rattle.std.proofs.Common.{◌+◌, List, length}
use Rattle.cell_core.specs.Keyed.{IsMap}
use Rattle.cell_core.specs.Entry.{key_cmp}
use Rattle.catalogue.specs.Entries.{Entries}
use Rattle.map_docs.specs.Maps.{Labelled}
use Rattle.docs_core.specs.inner.FoundChanges.{IsFound, changes_of}
use Rattle.docs_core.proofs.FoundChangesLemmas.{AreThese, IsFoundIn}
use Rattle.docs_core.proofs.call.found_changes.find_rest.Given as goal

-- the changes at the keys before those that are left are found
abbrev pub invariant-loop-next : goal.invariant-loop-next
invariant-loop-next l = record {
  old_map : IsMap key_cmp l.olds;
  new_map : IsMap key_cmp l.news;
  found : (all all_new : List Labelled) (cells : Entries)
      → IsFound all all_new l.fn.old l.fn.new cells
      (changes_of l.fn.changes.items)
      → IsFoundIn all all_new l.olds l.news cells (AreThese cells)
      (changes_of l.changes.items);
}

abbrev pub decreases-loop-next : goal.decreases-loop-next
decreases-loop-next l = length l.olds + length l.news
