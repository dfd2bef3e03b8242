use Rattle.std.proofs.Common.{sym, subst, ◌∙◌}
use Rattle.catalogue.specs.Changes.{AreChanges}
use Rattle.catalogue.specs.ChangesLeft.{differing, side_by_side}
use Rattle.catalogue.proofs.ChangesLemmas.{are_changes}
use Rattle.catalogue.proofs.catalogue.Catalogue.changes.Goals as goal

pub returns : goal.returns
returns c =
    let mine = c.iter.ensures in
    let others = c.iter-2.ensures in
    let before = c.args.self.now in
    let after = c.args.after.now in
    let gives = c.new.ensures
    ∙ (λ i. differing (side_by_side (mine.cells i) (others.cells i))) in
    subst (AreChanges before after) (sym gives)
    (are_changes before after mine.sorted others.sorted)
