use Rattle.std.proofs.Common.{◌≡◌, rules, of_z, to_z, w32}
use Rattle.front_core.specs.OpenSite.{AreUpdated, RefusesUpdates}
use Rattle.front_c.specs.Handles.{site_of}
use Rattle.front_c.proofs.ReportingAskedLemmas.{kept_as}
use Rattle.front_c.proofs.sw_site_update.Goals as goal

pub returns-in-Some : goal.returns-in-Some
returns-in-Some c =
    let same : to_z w32 (of_z w32 c.report_edit.result) ≡ c.report_edit.result = search rules in
    rw same
    (kept_as (AreUpdated c.args.now c.args.old.now c.args.new.now)
    (RefusesUpdates c.args.now c.args.old.now c.args.new.now)
    (site_of c.args.site.now) c.in-Some.held.now c.update.new.self c.update.result
    c.report_edit.new.told _ (search rules) c.update.ensures.ok c.update.ensures.err
    c.update.ensures.left c.report_edit.ensures)
