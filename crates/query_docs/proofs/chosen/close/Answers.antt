use Rattle.std.proofs.lemmas.Result.{IfOk-weaker}
use Rattle.query_docs.specs.inner.Chosen.{chosen_labels}
use Rattle.query_docs.proofs.ExportingLemmas.{chosen-IsMap}
use Rattle.query_docs.proofs.chosen.close.Goals as goal

pub returns : goal.returns
returns c =
    IfOk-weaker c.close.result _ _
    (λ _ closed first seen has map.
    let labels = chosen_labels first.messages seen in
    let chosen = c.in_ok-chosen.ensures first seen has in
    closed labels chosen.labels_are
    (chosen-IsMap first.messages seen map)) c.close.ensures
