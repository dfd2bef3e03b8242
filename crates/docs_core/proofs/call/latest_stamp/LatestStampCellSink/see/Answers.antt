use Rattle.std.proofs.Common.{◌∙◌, Option, Some, ap, sym}
use Rattle.cell_core.specs.Cell.{joined_stamps}
use Rattle.cell_core.specs.Keyed.{joined_if_both}
use Rattle.cell_core.specs.declared.stamp.Stamp.{Stamp}
use Rattle.site_docs.specs.Sink.{entry_of}
use Rattle.query_docs.proofs.StatusCountsLemmas.{latest_more}
use Rattle.docs_core.proofs.call.latest_stamp.LatestStampCellSink.see.Goals as goal

-- its stamp is among all
pub returns : goal.returns
returns c = λ first before held above.
    let e = entry_of c.args.cell in
    c.later-self.ensures
    ∙ ap (λ (l : Option Stamp). joined_if_both joined_stamps l (Some e.1.stamp)) held
    ∙ sym (latest_more before e)
