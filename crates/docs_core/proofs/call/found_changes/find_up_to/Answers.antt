use Rattle.std.proofs.Common.{◌≡◌, None, sym}
use Rattle.std.specs.declared.cmp.Ordering.TheVariants.{Less}
use Rattle.cell_core.specs.Entry.{key_cmp}
use Rattle.site_docs.specs.Sink.{entry_of}
use Rattle.docs_core.specs.inner.FoundChanges.{changes_of}
use Rattle.docs_core.specs.inner.Revised.{key_of}
use Rattle.docs_core.proofs.FoundChangesLemmas.{GoesOn, all_greater, equal_there, found_before}
use Rattle.docs_core.proofs.FoundChangesLemmas.{found_cell, found_next, lesser_absent, none_left}
use Rattle.docs_core.proofs.call.found_changes.find_up_to.Goals as goal

-- no key is passed yet
pub loop-next-init : goal.loop-next-init
loop-next-init c = record {
  old_map = c.requires.old;
  new_map = c.requires.new;
  found = λ all all_new seen above before. found_before all all_new c.args.old.now
      c.args.new.now seen (entry_of c.args.cell.now)
      (changes_of c.args.changes.now.items) before;
}

-- a greater key is left
pub returns-in-Greater-clause-found : goal.returns-in-Greater-clause-found
returns-in-Greater-clause-found c = λ all all_new seen above before.
    let e = entry_of c.args.cell.now in
    let olds = c.loop-next.olds.now in
    let news = c.loop-next.news.now in
    found_cell all all_new olds news seen e (changes_of c.loop-next.changes.items)
    (c.loop-next.invariant.found all all_new seen above before)
    (all_greater c.in-Some.next olds news c.in-Some.old_rest.now
    c.in-Some.new_rest.now c.in-Some.ensures.first e.0 (sym c.in-Greater.ensures))

-- a lesser key is passed, which has no cell
pub loop-next-preserved-in_ok-note-in-Less : goal.loop-next-preserved-in_ok-note-in-Less
loop-next-preserved-in_ok-note-in-Less c =
    let inv = c.loop-next.invariant in
    let e = entry_of c.args.cell.now in
    let r = c.in-Some.next in
    let first = c.in-Some.ensures.first in record {
      old_map = first.old_head.ascends;
      new_map = first.new_head.ascends;
      found = λ all all_new seen above before.
          let so = inv.found all all_new seen above before in
          found_next r c.loop-next.olds.now c.loop-next.news.now
          c.in-Some.old_rest.now c.in-Some.new_rest.now first all all_new
          seen (GoesOn seen e) None (changes_of c.loop-next.changes.items)
          (changes_of c.note.new.changes.items) so
          (λ cells goes has. lesser_absent seen e (key_of r) cells goes (so.above (key_of r) has)
          (sym c.in-Less.ensures))
          c.in_ok-note-in-Less.ensures;
    }

-- the key of the cell is passed
pub loop-next-preserved : goal.loop-next-preserved
loop-next-preserved c =
    let inv = c.loop-next.invariant in
    let e = entry_of c.args.cell.now in
    let r = c.in-Some.next in
    let first = c.in-Some.ensures.first in record {
      old_map = first.old_head.ascends;
      new_map = first.new_head.ascends;
      found = λ all all_new seen above before.
          found_next r c.loop-next.olds.now c.loop-next.news.now
          c.in-Some.old_rest.now c.in-Some.new_rest.now first all all_new
          seen (GoesOn seen e) e.1.label (changes_of c.loop-next.changes.items)
          (changes_of c.note-in-Equal.new.changes.items)
          (inv.found all all_new seen above before)
          (λ cells goes has. equal_there seen e (key_of r) cells goes above
          (sym c.in-Equal.ensures))
          c.in_ok-note-in-Equal.ensures;
    }

-- no key is left
pub returns-clause-found : goal.returns-clause-found
returns-clause-found c = λ all all_new seen above before.
    let e = entry_of c.args.cell.now in
    let olds = c.loop-next.olds.now in
    let news = c.loop-next.news.now in
    let none = c.in_default.ensures.first in
    found_cell all all_new olds news seen e (changes_of c.loop-next.changes.items)
    (c.loop-next.invariant.found all all_new seen above before)
    (none_left olds news none.0 none.1
    (λ key. key_cmp e.0 key ≡ Less))
