use Rattle.std.proofs.Common.{subst}
use Rattle.std.proofs.lemmas.Result.{IfOk-weaker}
use Rattle.map_docs.specs.WritingTexts.{AreWritten}
use Rattle.query_docs.specs.inner.Chosen.{chosen_labels}
use Rattle.query_docs.specs.declared.messages.Messages.{Messages}
use Rattle.query_docs.proofs.chosen.write_chosen.Goals as goal

-- the labels are those of the catalogue that was shown
pub returns : goal.returns
returns c =
    let cells = c.args.catalogue.now in
    let shown = c.in_ok-shown.ensures in
    IfOk-weaker c.close.result _ _
    (λ written closed. subst
    (λ (m : Messages). AreWritten (chosen_labels m cells) written.0 written.1) c.in_ok-start.ensures
    (closed c.in_ok-start.start.sink cells shown.1 shown.0)) c.close.ensures
