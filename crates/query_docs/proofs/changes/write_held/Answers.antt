use Rattle.std.proofs.Common.{◌≡◌}
use Rattle.std.specs.Prelude.{Some}
use Rattle.query_docs.proofs.changes.write_held.Goals as goal

-- the texts that are written are those of the cell's label
pub returns-in-Some : goal.returns-in-Some
returns-in-Some c =
    let label : Some c.in-Some.label.now ≡ c.args.cell.now.label = c.in-Some.ensures in
    rw (← label) (rw (c.texts.ensures.texts, c.stamp.ensures) at c.write_stamped.ensures)
