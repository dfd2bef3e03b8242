use Rattle.std.proofs.Common.{◌≡◌, Some, of_z, rules, to_z, w32}
use Rattle.front_core.specs.OpenSite.{IsMerged, LeavesMerge, RefusesMerge}
use Rattle.front_c.specs.Handles.{site_of}
use Rattle.front_c.specs.Question.{checks_of}
use Rattle.front_c.proofs.ReportingAskedLemmas.{edited_as}
use Rattle.front_c.proofs.sw_site_merge.Goals as goal

pub returns-in-Some-open-clause-merged : goal.returns-in-Some-open-clause-merged
returns-in-Some-open-clause-merged c =
    let other = c.site.result.now in
    let checks = c.in-Some-checks_of.checks in
    let same : to_z w32 (of_z w32 c.report_edit.result) ≡ c.report_edit.result = search rules in
    let there : site_of c.args.other.now ≡ Some c.in-Some.cells.now = search rules in
    let asked : checks_of c.args.flags c.args.not_after ≡ Some checks = search rules in
    rw (same, there, asked, ← c.site.ensures)
    (edited_as (IsMerged other checks) (LeavesMerge other checks) (RefusesMerge other checks)
    (site_of c.args.site.now) c.in-Some-open.held.now c.merge.new.self c.merge.result
    c.report_edit.new.told _ (search rules) c.merge.ensures.ok c.merge.ensures.err
    c.merge.ensures.left c.merge.ensures.kept c.report_edit.ensures)
