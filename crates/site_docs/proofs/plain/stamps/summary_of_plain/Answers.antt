use Rattle.std.proofs.Common.{◌∙◌, List, ℕ, ap, refl, subst, sym}
use Rattle.cata_core.specs.Summary.{SummaryState}
use Rattle.site_docs.specs.Reading.{ReadsAsSummary}
use Rattle.site_docs.proofs.PlainStampsLemmas.{summary_taken}
use Rattle.site_docs.proofs.plain.stamps.summary_of_plain.Goals as goal

-- the members one after another are the document of the summary
pub returns-in-Ok-new : goal.returns-in-Ok-new
returns-in-Ok-new c =
    let last = c.if-not-is_version.ensures refl in
    let stamps = c.in_ok-summary.summary.stamps in
    let owned : List ℕ → SummaryState = λ owner. record { owner = owner; stamps = stamps } in
    subst (λ (summary : SummaryState). ReadsAsSummary c.args.bytes.now summary)
    (sym (c.with_owner.ensures ∙ ap owned c.in-Ok-new.ensures.1))
    (summary_taken c.args.bytes.now c.in-Ok.text.now c.in_ok-rest.rest.now c.in_ok-rest-2.rest.now
    c.in_ok-rest-3.rest.now c.in_ok-owner.rest.now c.in_ok-rest-4.rest.now
    c.in_ok-summary.rest.now c.in_ok-rest-5.rest.now last.0 c.in_ok-owner.owner.now stamps
    c.in-Ok.ensures c.in_ok-rest.ensures c.in_ok-rest-2.ensures c.in_ok-rest-3.ensures
    c.in_ok-owner.ensures c.in_ok-rest-4.ensures c.in_ok-summary.ensures.text
    c.in_ok-rest-5.ensures last.2 last.1 c.in-Ok-new.ensures.0 c.in_ok-summary.ensures.kept)
