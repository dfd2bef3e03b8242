use Rattle.std.proofs.Common.{List, subst, ℕ}
use Rattle.row_docs.specs.Reading.{IsOfDocument}
use Rattle.site_docs.specs.Reading.{IsDeltaText}
use Rattle.summary_docs.specs.LackedRows.{HoldsLacked}
use Rattle.summary_docs.specs.Reading.{RefusesShown}
use Rattle.summary_docs.specs.Shown.{ShownState, delta_for, known_in}
use Rattle.docs_core.proofs.CallsLemmas.{refused_after}
use Rattle.docs_core.proofs.call.sites.delta_document.Goals as goal

-- the summary is refused, and before it the site, if it is
pub returns-in-Err : goal.returns-in-Err
returns-in-Err c =
    refused_after c.args.site.now c.in-Err.fault c.first_refusal.result
    (IsOfDocument 2 (RefusesShown c.args.summary.now)) c.first_refusal.ensures c.in-Err.ensures

-- the rows that the summary lacks were written
pub returns : goal.returns
returns c =
    let show = c.in_ok-rows.ensures in
    let shown = c.in-Ok.summary in
    let holds = subst (λ (s : ShownState). HoldsLacked c.in_ok-rows.rows (known_in s) show.0)
    c.in_ok-start.ensures show.3.1 in (
      record { name = c.in_ok-rows.field-0-0; cells = show.0 },
      shown,
      show.1,
      c.in-Ok.ensures,
      subst
          (λ (n : List ℕ). IsDeltaText
          (record { addressee = n; cells = delta_for show.0 shown }) c.in_ok-doc.doc)
          c.owner.ensures
          (c.in_ok-doc.ensures show.0 (known_in shown) holds show.2),
    )
