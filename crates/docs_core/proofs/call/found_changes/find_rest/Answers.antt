use Rattle.docs_core.specs.inner.FoundChanges.{changes_of}
use Rattle.docs_core.specs.inner.Revised.{key_of}
use Rattle.std.specs.Prelude.{None}
use Rattle.docs_core.proofs.FoundChangesLemmas.{AreThese, found_all, found_next, found_rest}
use Rattle.docs_core.proofs.FoundChangesLemmas.{rest_absent}
use Rattle.docs_core.proofs.call.found_changes.find_rest.Goals as goal

-- no key is passed yet
pub loop-next-init : goal.loop-next-init
loop-next-init c = record {
  old_map = c.requires.old;
  new_map = c.requires.new;
  found = λ all all_new cells before. found_rest all all_new c.args.old.now
      c.args.new.now cells (changes_of c.args.changes.now.items) before;
}

-- one key more, which has no cell
pub loop-next-preserved : goal.loop-next-preserved
loop-next-preserved c =
    let inv = c.loop-next.invariant in
    let r = c.in-Some.next in
    let first = c.in-Some.ensures.first in
    let olds = c.loop-next.olds.now in
    let news = c.loop-next.news.now in record {
      old_map = first.old_head.ascends;
      new_map = first.new_head.ascends;
      found = λ all all_new cells before.
          let so = inv.found all all_new cells before in
          found_next r olds news c.in-Some.old_rest.now
          c.in-Some.new_rest.now first all all_new cells (AreThese cells) None
          (changes_of c.loop-next.changes.items) (changes_of c.note.new.changes.items) so
          (λ these are has. rest_absent cells (key_of r) these are (so.above (key_of r) has))
          c.in_ok-note.ensures;
    }

-- no key is left
pub returns : goal.returns
returns c = λ all all_new cells map before.
    let none = c.in_default.ensures.first in
    found_all all all_new c.loop-next.olds.now c.loop-next.news.now cells
    (changes_of c.loop-next.changes.items) (c.loop-next.invariant.found all all_new cells before)
    none.0 none.1 map
