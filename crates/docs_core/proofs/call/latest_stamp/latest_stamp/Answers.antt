use Rattle.json_docs.proofs.ObjectMembersLemmas.{ok_weaker}
use Rattle.docs_core.proofs.call.latest_stamp.latest_stamp.Goals as goal

-- that of all cells that were shown
pub returns : goal.returns
returns c =
    ok_weaker c.show_document.result _ _ _ c.show_document.ensures
    (λ shown show. (show.0, show.1, show.3))
