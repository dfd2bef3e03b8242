use Rattle.std.proofs.Common.{◌≡◌, rules, of_z, to_z, w32}
use Rattle.front_core.specs.Exchange.{IsDelta, RefusesDelta}
use Rattle.front_c.specs.Handles.{site_of}
use Rattle.front_c.specs.Reporting.{ReportsAnswer, ReportsEither}
use Rattle.front_c.proofs.ReportingAskedLemmas.{open_as, report_as}
use Rattle.front_c.proofs.sw_site_delta.Goals as goal

pub returns-in-Some-clause-answer : goal.returns-in-Some-clause-answer
returns-in-Some-clause-answer c =
    let summary = c.args.summary.now in
    let s = c.in-Some.held.now in
    let same : to_z w32 (of_z w32 c.report.result) ≡ c.report.result = search rules in
    rw same
    (open_as (site_of c.args.site.now)
    (λ s. ReportsEither (IsDelta s summary) (RefusesDelta summary) ReportsAnswer) s
    c.args.out.now c.report.new.out c.report.new.told _ (search rules)
    (report_as c.delta.result (IsDelta s summary) (RefusesDelta summary) c.args.out.now
    c.report.new.out c.report.new.told _ (rw (← c.site.ensures) c.delta.ensures)
    c.report.ensures))
