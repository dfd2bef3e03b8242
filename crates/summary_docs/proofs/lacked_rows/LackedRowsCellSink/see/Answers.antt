use Rattle.std.proofs.Common.{◌∙◌}
use Rattle.std.proofs.lemmas.Result.{IfOk-weaker}
use Rattle.site_docs.specs.Sink.{entry_of}
use Rattle.summary_docs.specs.Shown.{known_in}
use Rattle.summary_docs.proofs.LackedRowsLemmas.{above_before, above_one}
use Rattle.summary_docs.proofs.lacked_rows.LackedRowsCellSink.see.Goals as goal

-- the cells that are passed have no key that is greater than the cell's
pub returns : goal.returns
returns c =
    IfOk-weaker c.add_if_lacked.result _ _ (λ _ added. λ first before held above.
    let e = entry_of c.args.cell in
    let at = c.known_at-known.ensures in (
      held.0,
      record {
        draft =
            added before (known_in first.summary.now) (at.known ∙ held.1.left e.0 above)
            held.1.draft;
        left =
            λ q over. at.passed q (above_one before e q over)
            ∙ held.1.left q (above_before before e q over);
      },
    )) c.add_if_lacked.ensures
