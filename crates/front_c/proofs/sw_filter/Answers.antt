use Rattle.std.proofs.Common.{◌≡◌, rules, of_z, to_z, w32}
use Rattle.docs_core.specs.Lines.{lines_of}
use Rattle.front_core.specs.Preferences.{field_text}
use Rattle.front_core.specs.TagFilter.{IsOfferedFilter, RefusesOfferedFilter}
use Rattle.front_c.specs.Question.{field_of}
use Rattle.front_c.specs.Rules.{offered_by}
use Rattle.front_c.specs.Reporting.{ReportsAnswer, ReportsEither}
use Rattle.front_c.proofs.ReportingAskedLemmas.{field_as, report_as}
use Rattle.front_c.proofs.sw_filter.Goals as goal

-- The answer of the filter is reported for the field as the flags read it.
pub returns-in-Some : goal.returns-in-Some
returns-in-Some c =
    let tags = lines_of c.args.tags.now in
    let offers = offered_by c.args.rules.now in
    let read = field_text c.in-Some.field in
    let same : to_z w32 (of_z w32 c.report.result) ≡ c.report.result = search rules in
    rw same
    (field_as (field_of c.args.flags c.args.field.now)
    (λ f. ReportsEither (IsOfferedFilter offers f tags)
    (RefusesOfferedFilter offers f tags) ReportsAnswer)
    read c.args.out.now c.report.new.out c.report.new.told _ (search rules)
    (report_as c.filter_tags.result (IsOfferedFilter offers read tags)
    (RefusesOfferedFilter offers read tags)
    c.args.out.now c.report.new.out c.report.new.told _
    (rw (← c.offering.ensures) c.filter_tags.ensures)
    c.report.ensures))
