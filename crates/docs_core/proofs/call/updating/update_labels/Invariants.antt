use Rattle.std.proofs.Common.{◌≡◌, ◌+◌, length}
use Rattle.cell_core.specs.Keyed.{IsMap}
use Rattle.cell_core.specs.Entry.{key_cmp}
use Rattle.docs_core.proofs.UpdatingLemmas.{IsFront}
use Rattle.docs_core.proofs.call.updating.update_labels.Given as goal

-- the changes of the keys before those that are left are made
abbrev pub invariant-loop-revised : goal.invariant-loop-revised
invariant-loop-revised l = record {
  name : l.site.name ≡ l.fn.site.name;
  old_map : IsMap key_cmp l.olds;
  new_map : IsMap key_cmp l.news;
  front : IsFront l.now l.fn.site.name l.old l.new l.fn.site.cells l.olds
      l.news l.site.cells;
}

abbrev pub decreases-loop-revised : goal.decreases-loop-revised
decreases-loop-revised l = length l.olds + length l.news
