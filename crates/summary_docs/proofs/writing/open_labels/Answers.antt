use Rattle.std.proofs.Common.{◌++◌}
use Rattle.std.proofs.lemmas.Result.{IfOk-weaker}
use Rattle.cell_core.specs.Label.{texts_of}
use Rattle.row_docs.specs.EntriesValues.{texts_value}
use Rattle.row_docs.specs.WritingTexts.{value_tokens}
use Rattle.row_docs.proofs.WritingTextsLemmas.{Adds-then}
use Rattle.summary_docs.specs.inner.Writing.{kind_opening, stamps_opening}
use Rattle.summary_docs.proofs.writing.open_labels.Goals as goal

-- the kind, the digests and what follows them, one after another
pub returns-clause-tokens : goal.returns-clause-tokens
returns-clause-tokens c =
    let labels = value_tokens (texts_value (texts_of c.args.digests.now)) in
    let begun = Adds-then c.args.draft.now c.open_kind.new.draft c.write_texts.new.out kind_opening
    labels c.in_ok-open_kind.ensures c.in_ok-write_texts.ensures in
    IfOk-weaker c.open_stamps.result _ _
    (λ _ opened. Adds-then c.args.draft.now c.write_texts.new.out c.open_stamps.new.draft
    (kind_opening ++ labels) (stamps_opening c.args.owner) begun opened)
    c.open_stamps.ensures.tokens
