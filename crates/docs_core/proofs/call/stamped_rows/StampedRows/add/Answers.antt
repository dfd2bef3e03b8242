use Rattle.std.proofs.Common.{◌∙◌, ◌++◌, [], ◌∷◌, Some, ap, refl, subst}
use Rattle.cell_core.specs.declared.cell.Cell.{Cell}
use Rattle.docs_core.specs.inner.SyncedRows.{IsSyncedTo, untested}
use Rattle.docs_core.proofs.StampedRowsLemmas.{stamped_more}
use Rattle.docs_core.proofs.call.stamped_rows.StampedRows.add.Goals as goal

-- the change has the next stamp
pub returns-clause-holds : goal.returns-clause-holds
returns-clause-holds c = λ now name last taken above holds.
    let old = c.args.self.now in
    let stamp = c.in-Ok.stamp in
    let latest =
    ap Some (c.stamp.ensures ∙ ap (λ (d : Cell). d.stamp) c.new-cell.ensures) in
    stamped_more now name last old _ taken ((c.args.id.now, c.args.lang.now), c.args.label) stamp
    holds above c.in-Ok.ensures
    (λ seen greater so_far. subst (λ (d : Cell). IsSyncedTo untested old.site.now
    c.write_change.new.rows c.write_change.new.draft
    (seen ++ ((c.args.id.now, c.args.lang.now), d) ∷ []))
    c.new-cell.ensures (c.in_ok-write_change.ensures.synced old.site.now seen greater so_far))
    latest refl refl
