use Rattle.std.proofs.Common.{◌≡◌, rules, of_z, to_z, w32}
use Rattle.docs_core.specs.Lines.{lines_of}
use Rattle.front_core.specs.Preferences.{field_text}
use Rattle.front_core.specs.TagPick.{IsPickedOffered, RefusesPickOffered}
use Rattle.front_c.specs.Question.{default_of, lookup_field_of}
use Rattle.front_c.specs.Rules.{offered_by}
use Rattle.front_c.specs.Reporting.{ReportsEither, ReportsPicked}
use Rattle.front_c.proofs.ReportingAskedLemmas.{field_as}
use Rattle.front_c.proofs.sw_pick.Goals as goal

pub returns-in-Some : goal.returns-in-Some
returns-in-Some c =
    let tags = lines_of c.args.tags.now in
    let offers = offered_by c.args.rules.now in
    let default = default_of c.args.default.now in
    let same : to_z w32 (of_z w32 c.report_pick.result) ≡ c.report_pick.result = search rules in
    rw same
    (field_as (lookup_field_of c.args.flags c.args.rules.now.fallbacks.now c.args.field.now)
    (λ f. ReportsEither (IsPickedOffered offers f default tags)
    (RefusesPickOffered offers f default tags) ReportsPicked)
    (field_text c.in-Some.field) c.args.out.now c.report_pick.new.out c.report_pick.new.told _
    (search rules) (rw (← c.offering.ensures) c.report_pick.ensures))
