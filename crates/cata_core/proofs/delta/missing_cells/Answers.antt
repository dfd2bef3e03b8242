use Rattle.std.proofs.Common.{[], ◌∷◌, ◌++◌, sym, ◌∙◌, subst}
use Rattle.catalogue.specs.Cells.{cells_left}
use Rattle.cata_core.specs.Delta.{is_missing}
use Rattle.cell_core.specs.Entry.{EntryKey}
use Rattle.catalogue.specs.Entries.{Entries, IsAboveAll}
use Rattle.cata_core.proofs.DeltaMissingLemmas.{AreMissingSoFar, sent_above, missing_more}
use Rattle.cata_core.proofs.DeltaMissingLemmas.{missing_same}
use Rattle.cata_core.proofs.SummaryListsLemmas.{not_greater_self}
use Rattle.cata_core.proofs.delta.missing_cells.Goals as goal

-- the key of a cell is above those before it
pub push-requires : goal.push-requires
push-requires c =
    let all = c.args.catalogue.now in
    let left = cells_left c.next.new.self in
    let summary = c.args.summary.now.stamps in
    let rest = c.loop-id.rest.now in
    let more = c.stamp_at-stamp.result.1.now in
    let k : EntryKey = (c.in-Some.id.now, c.in-Some.lang.now) in
    let h =
    subst (λ (left : Entries). AreMissingSoFar c.args.catalogue.now left c.loop-id.missing
    c.args.summary.now.stamps c.loop-id.rest.now) c.in-Some.ensures.steps
    c.loop-id.invariant in
    let found = c.stamp_at-stamp.ensures.stamp ∙ h.same k (not_greater_self k) in
    subst (λ (key : EntryKey). IsAboveAll key c.loop-id.missing)
    (λ i. (sym c.in_ok-copy.ensures.equal i, sym c.in_ok-copy-2.ensures.equal i))
    (sent_above all left c.loop-id.missing summary rest more k c.in-Some.cell.now h
    c.stamp_at-stamp.ensures.rest
    ((λ i. is_missing (sym found i) (sym c.stamp.ensures i)) ∙ sym c.is_missing.ensures
    ∙ c.if-not-is_missing.false))

-- The missing ones are those among the cells read: this cell is missing by the summary's stamp at
-- its key, so it was pushed last.
pub loop-id-preserved : goal.loop-id-preserved
loop-id-preserved c =
    let all = c.args.catalogue.now in
    let left = cells_left c.next.new.self in
    let summary = c.args.summary.now.stamps in
    let rest = c.loop-id.rest.now in
    let more = c.stamp_at-stamp.result.1.now in
    let k : EntryKey = (c.in-Some.id.now, c.in-Some.lang.now) in
    let h =
    subst (λ (left : Entries). AreMissingSoFar c.args.catalogue.now left c.loop-id.missing
    c.args.summary.now.stamps c.loop-id.rest.now) c.in-Some.ensures.steps
    c.loop-id.invariant in
    let found = c.stamp_at-stamp.ensures.stamp ∙ h.same k (not_greater_self k) in
    subst (λ (missing : Entries). AreMissingSoFar c.args.catalogue.now (cells_left c.next.new.self)
    missing c.args.summary.now.stamps c.stamp_at-stamp.result.1.now)
    (sym (c.in_ok-push.ensures.ok
    ∙ (λ i. c.loop-id.missing
    ++ ((c.in_ok-copy.ensures.equal i, c.in_ok-copy-2.ensures.equal i), c.in_ok-copy-3.ensures i)
    ∷ [])))
    (missing_more all left c.loop-id.missing summary rest more k c.in-Some.cell.now h
    c.stamp_at-stamp.ensures.rest
    ((λ i. is_missing (sym found i) (sym c.stamp.ensures i)) ∙ sym c.is_missing.ensures
    ∙ c.if-not-is_missing.false))

-- The same where the summary's stamp covers the cell: nothing is added.
pub loop-id-preserved-then-not-is_missing : goal.loop-id-preserved-then-not-is_missing
loop-id-preserved-then-not-is_missing c =
    let all = c.args.catalogue.now in
    let left = cells_left c.next.new.self in
    let summary = c.args.summary.now.stamps in
    let rest = c.loop-id.rest.now in
    let more = c.stamp_at-stamp.result.1.now in
    let k : EntryKey = (c.in-Some.id.now, c.in-Some.lang.now) in
    let h =
    subst (λ (left : Entries). AreMissingSoFar c.args.catalogue.now left c.loop-id.missing
    c.args.summary.now.stamps c.loop-id.rest.now) c.in-Some.ensures.steps
    c.loop-id.invariant in
    let found = c.stamp_at-stamp.ensures.stamp ∙ h.same k (not_greater_self k) in
    missing_same all left c.loop-id.missing summary rest more k c.in-Some.cell.now h
    c.stamp_at-stamp.ensures.rest
    ((λ i. is_missing (sym found i) (sym c.stamp.ensures i)) ∙ sym c.is_missing.ensures
    ∙ c.if-not-is_missing.true)
