use Rattle.std.proofs.Common.{◌∙◌, ap, subst, sym}
use Rattle.std.proofs.lemmas.Result.{IfOk-weaker}
use Rattle.site_docs.specs.RowsDraft.{HoldsRows}
use Rattle.site_docs.specs.Sink.{entry_of}
use Rattle.summary_docs.specs.Shown.{is_lacked, lacked_of}
use Rattle.summary_docs.proofs.LackedRowsLemmas.{known_more, lacked_more}
use Rattle.summary_docs.proofs.lacked_rows.add_if_lacked.Goals as goal

-- the summary has the cell
pub returns-then-not-lacked : goal.returns-then-not-lacked
returns-then-not-lacked c = λ cells known is holds.
    let e = entry_of c.args.cell.now in
    let held = ap (λ k. is_lacked k e.1) (sym is) ∙ sym c.in_ok-lacked.ensures
    ∙ c.if-not-lacked.true in
    subst (HoldsRows c.args.draft.now) (sym (known_more cells e known held)) holds

-- the summary lacks it
pub returns : goal.returns
returns c =
    IfOk-weaker c.add.result _ _ (λ _ added. λ cells known is holds.
    let e = entry_of c.args.cell.now in
    let lacked = ap (λ k. is_lacked k e.1) (sym is) ∙ sym c.in_ok-lacked.ensures
    ∙ c.if-not-lacked.false in
    subst (HoldsRows c.add.new.self) (sym (lacked_more cells e known lacked))
    (added (lacked_of cells known) holds)) c.add.ensures
