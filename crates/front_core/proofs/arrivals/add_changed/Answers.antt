use Rattle.std.proofs.Common.{◌≡◌, ◌∙◌, subst, sym}
use Rattle.cell_core.specs.Entry.{EntryKey}
use Rattle.front_core.specs.inner.Arrivals.{KnowsMore}
use Rattle.front_core.proofs.ArrivalsLemmas.{label_known}
use Rattle.front_core.proofs.SpareLemmas.{on_ok_at}
use Rattle.front_core.proofs.arrivals.add_changed.Goals as goal

-- the key of this label is known
pub loop-found-preserved : goal.loop-found-preserved
loop-found-preserved c =
    let inv = c.loop-found.invariant in
    let added = sym c.ok.ensures.value ∙ c.in_ok-ok.was in
    let result = c.add_if_changed.result in record {
      part = on_ok_at result c.in_ok-ok.field-0 added c.add_if_changed.ensures.part;
      known = λ q why. label_known c.args.was.now c.args.cells.now c.loop-found.came
          c.add_if_changed.new.came c.args.labels.now c.loop-found.found-index
          c.found-item.result c.loop-found-test.true c.found-item.is
          (subst (λ (k : EntryKey). KnowsMore (λ q. q ≡ k) c.args.was.now c.args.cells.now
          c.loop-found.came c.add_if_changed.new.came) (λ j. (c.id.ensures j, c.lang.ensures j))
          (on_ok_at result c.in_ok-ok.field-0 added c.add_if_changed.ensures.known)) q
          (inv.known q why);
    }
