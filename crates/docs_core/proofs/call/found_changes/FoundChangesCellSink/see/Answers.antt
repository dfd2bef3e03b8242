use Rattle.std.proofs.Common.{◌∙◌, Option, Some, ap, sym}
use Rattle.cell_core.specs.Cell.{joined_stamps}
use Rattle.cell_core.specs.Keyed.{joined_if_both}
use Rattle.cell_core.specs.declared.stamp.Stamp.{Stamp}
use Rattle.site_docs.specs.Sink.{entry_of}
use Rattle.query_docs.proofs.StatusCountsLemmas.{latest_more}
use Rattle.docs_core.proofs.call.found_changes.FoundChangesCellSink.see.Goals as goal

-- the keys up to that of the cell are passed, and its stamp is among all
pub returns : goal.returns
returns c = λ first before held above.
    let e = entry_of c.args.cell in
    let found = c.in_ok-olds.ensures in (
      held.0,
      held.1,
      record {
        latest =
            c.later-self.ensures
            ∙ ap (λ (l : Option Stamp). joined_if_both joined_stamps l (Some e.1.stamp))
            held.2.latest
            ∙ sym (latest_more before e);
        old_map = found.old;
        new_map = found.new;
        changes = found.found first.old.now first.new.now before above held.2.changes;
      },
    )
