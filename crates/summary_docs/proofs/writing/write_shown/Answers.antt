use Rattle.std.proofs.Common.{◌≡◌, ◌∙◌, subst, sym}
use Rattle.std.specs.Prelude.{IsUtf8}
use Rattle.summary_docs.specs.Reading.{ReadsAsShown}
use Rattle.summary_docs.specs.Writing.{shown_text}
use Rattle.summary_docs.proofs.WritingLemmas.{shown_again, shown_written}
use Rattle.summary_docs.proofs.writing.write_shown.Goals as goal

-- the text is that of the document, and reads as the summary
pub returns : goal.returns
returns c =
    let shown = c.args.shown.now in
    let opened = rw (c.digests.ensures, c.owner.ensures) at c.in_ok-open_labels.ensures.tokens in
    let named = rw c.owner.ensures at c.in_ok-open_labels.ensures.owner in
    let rows = rw c.summary.ensures at c.in_ok-write_stamps.ensures.rows in
    let kept = rw c.summary.ensures at c.in_ok-write_stamps.ensures.kept in
    let begun = c.new-draft.ensures in
    let written =
    shown_written c.new-draft.result c.open_labels.new.draft c.write_stamps.new.draft
    c.end_stamps.new.draft shown.summary.owner shown.digests shown.summary.stamps
    (begun.before ∙ c.new.ensures.items) begun.tokens opened rows c.in_ok-end_stamps.ensures in
    let is : c.in_ok-doc.doc ≡ shown_text shown = c.in_ok-doc.ensures.text ∙ written.1 in (
      is,
      subst (λ doc. ReadsAsShown doc shown) (sym is)
          (shown_again shown named kept c.requires.digests c.requires.each
          (subst IsUtf8 is (c.in_ok-doc.ensures.utf8 written.0))),
    )
