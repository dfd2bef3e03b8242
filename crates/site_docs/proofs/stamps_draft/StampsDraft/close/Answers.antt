use Rattle.site_docs.proofs.StampsDraftLemmas.{is_front}
use Rattle.site_docs.proofs.stamps_draft.StampsDraft.close.Goals as goal

pub returns : goal.returns
returns c = λ owner stamps holds map.
    c.closed_summary.ensures owner stamps holds.is_owner
    (is_front c.args.self owner stamps holds map)
