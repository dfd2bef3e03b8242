use Rattle.std.proofs.Common.{ap, subst, sym}
use Rattle.catalogue.specs.Changes.{Changed}
use Rattle.catalogue.specs.ChangesLeft.{changes_left}
use Rattle.query_docs.proofs.ChangesLemmas.{IsCounting, counting_first}
use Rattle.query_docs.proofs.changes.change_count.Goals as goal

pub loop-init : goal.loop-init
loop-init c =
    let all = ap changes_left c.into_iter-iterator.ensures.into_iter_gives in
    subst (λ (left : Changed). IsCounting c.args.before.now c.args.after.now 0 left) (sym all)
    (counting_first c.args.before.now c.args.after.now
    (changes_left c.changes-items.result) c.changes-items.ensures)
