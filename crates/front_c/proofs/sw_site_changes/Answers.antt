use Rattle.std.proofs.Common.{◌≡◌, Some, of_z, rules, to_z, w32}
use Rattle.front_core.specs.Ask.{IsNoMemory}
use Rattle.front_core.specs.Translate.{AreChangeLines}
use Rattle.front_c.specs.Handles.{site_of}
use Rattle.front_c.specs.Reporting.{ReportsAnswer, ReportsEither}
use Rattle.front_c.proofs.ReportingAskedLemmas.{open_as, report_as}
use Rattle.front_c.proofs.sw_site_changes.Goals as goal

-- What changed from the one open site to the other is reported.
pub returns-in-Some-open-clause-answer : goal.returns-in-Some-open-clause-answer
returns-in-Some-open-clause-answer c =
    let before = c.in-Some-open.before.now in
    let after = c.site-in-Some-open.result.now in
    let same : to_z w32 (of_z w32 c.report.result) ≡ c.report.result = search rules in
    let other : site_of c.args.other.now ≡ Some c.in-Some.after.now = search rules in
    rw (same, other, ← c.site-in-Some-open.ensures)
    (open_as (site_of c.args.site.now)
    (λ s. ReportsEither (AreChangeLines s after) IsNoMemory ReportsAnswer) before
    c.args.out.now c.report.new.out c.report.new.told _ (search rules)
    (report_as c.changes.result (AreChangeLines before after) IsNoMemory c.args.out.now
    c.report.new.out c.report.new.told _ (rw (← c.site.ensures) c.changes.ensures)
    c.report.ensures))
