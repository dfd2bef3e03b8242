use Rattle.std.proofs.Common.{◌∙◌, ◌++◌, ap}
use Rattle.std.proofs.lemmas.Result.{IfOk-weaker}
use Rattle.cell_core.specs.declared.stamp.Stamp.{Stamp}
use Rattle.cell_core.specs.Entry.{EntryKey}
use Rattle.row_docs.specs.Entries.{stamped_value, stamps_values}
use Rattle.row_docs.specs.WritingTexts.{value_tokens}
use Rattle.site_docs.specs.inner.Envelope.{stamps_opening}
use Rattle.site_docs.proofs.StampsDraftLemmas.{stamp_added}
use Rattle.site_docs.proofs.stamps_draft.StampsDraft.add.Goals as goal

-- the row, whose tokens were written
pub returns : goal.returns
returns c =
    let t : EntryKey × Stamp = ((c.args.id.now, c.args.lang.now), c.args.stamp) in
    let begun = c.begin_row-row.ensures in
    let wrote = c.in_ok-write_stamped.ensures in
    IfOk-weaker c.end_row.result _ _ (λ _ added. λ owner stamps holds.
    stamp_added c.args.self.now _ owner stamps t holds wrote.kept
    (added (stamps_opening owner) (stamps_values stamps) (stamped_value t)
    (begun.same (stamps_opening owner) (stamps_values stamps) holds.rows)
    (wrote.tokens.0 ∙ begun.before)
    (wrote.tokens.1 ∙ ap (λ ts. ts ++ value_tokens (stamped_value t)) begun.tokens)))
    c.end_row.ensures
