use Rattle.std.proofs.Common.{◌≡◌, rules, of_z, to_z, w32}
use Rattle.front_core.specs.OpenSite.{IsDeleted, RefusesDelete}
use Rattle.front_c.specs.Handles.{site_of}
use Rattle.front_c.proofs.ReportingAskedLemmas.{kept_as}
use Rattle.front_c.proofs.sw_site_delete.Goals as goal

pub returns-in-Some : goal.returns-in-Some
returns-in-Some c =
    let same : to_z w32 (of_z w32 c.report_edit.result) ≡ c.report_edit.result = search rules in
    rw same
    (kept_as (IsDeleted c.args.now c.args.id.now c.args.lang.now)
    (RefusesDelete c.args.now c.args.id.now c.args.lang.now)
    (site_of c.args.site.now) c.in-Some.held.now c.delete.new.self c.delete.result
    c.report_edit.new.told _ (search rules) c.delete.ensures.ok c.delete.ensures.err
    c.delete.ensures.left c.report_edit.ensures)
