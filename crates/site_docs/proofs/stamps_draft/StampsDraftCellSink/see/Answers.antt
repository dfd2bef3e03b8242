use Rattle.std.proofs.Common.{◌∙◌, ◌++◌, ◌∷◌, [], ap}
use Rattle.cell_core.proofs.KeyedAboveLemmas.{on_ok_then}
use Rattle.cata_core.specs.Delta.{summary_of}
use Rattle.row_docs.specs.Entries.{stamped_value, stamps_values}
use Rattle.site_docs.specs.inner.Envelope.{stamps_opening}
use Rattle.site_docs.specs.Sink.{entry_of}
use Rattle.site_docs.specs.declared.stamps_draft.StampsDraft.{StampsDraft}
use Rattle.site_docs.proofs.StampsDraftLemmas.{cell_added, stamp_added}
use Rattle.site_docs.proofs.stamps_draft.StampsDraftCellSink.see.Goals as goal

-- the row as far as its stamp, with a bracket
pub returns-in-Some : goal.returns-in-Some
returns-in-Some c =
    let of = rw c.in-Some.is at c.front_of.ensures in
    let row = rw of.1 at c.requires.row in
    let e = entry_of c.args.cell in
    let new : StampsDraft =
    record { owner = c.args.self.now.owner; rows = c.add_front.new.self } in
    on_ok_then c.add_front.result
    (λ added first before has above.
    cell_added new first.owner before e
    (stamp_added c.args.self.now new first.owner
    (summary_of before) (e.0, e.1.stamp) has row.0.0
    (added (stamps_opening first.owner) (stamps_values (summary_of before))
    (stamped_value (e.0, e.1.stamp)) has.rows
    (ap (λ front. front ++ 93 ∷ []) of.2 ∙ row.2)))) c.add_front.ensures

-- the row that was made
pub returns : goal.returns
returns c =
    on_ok_then c.add.result
    (λ added first before has above.
    cell_added c.add.new.self first.owner before (entry_of c.args.cell)
    (added first.owner (summary_of before) has)) c.add.ensures
