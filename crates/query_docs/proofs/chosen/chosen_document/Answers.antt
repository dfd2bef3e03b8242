use Rattle.std.proofs.Common.{subst}
use Rattle.map_docs.specs.WritingTexts.{AreWritten}
use Rattle.query_docs.specs.inner.Chosen.{chosen_labels}
use Rattle.query_docs.specs.declared.messages.Messages.{Messages}
use Rattle.query_docs.proofs.chosen.chosen_document.Goals as goal

-- the labels are those of the site that was shown
pub returns : goal.returns
returns c =
    let shown = c.in_ok-shown.ensures in
    let answer = c.in_ok-answer.answer in (
      record { name = c.in_ok-shown.field-0-0; cells = shown.0 },
      shown.1,
      subst (λ (m : Messages). AreWritten (chosen_labels m shown.0) answer.0 answer.1)
          c.in_ok-start.ensures
          (c.in_ok-answer.ensures c.in_ok-start.start.sink shown.0 shown.3 shown.2),
    )
