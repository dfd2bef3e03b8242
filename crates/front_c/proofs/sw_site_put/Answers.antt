use Rattle.std.proofs.Common.{◌≡◌, rules, of_z, to_z, w32}
use Rattle.front_core.specs.OpenSite.{IsPutInto, RefusesPutInto}
use Rattle.front_c.specs.Handles.{site_of}
use Rattle.front_c.proofs.ReportingAskedLemmas.{kept_as}
use Rattle.front_c.proofs.sw_site_put.Goals as goal

pub returns-in-Some : goal.returns-in-Some
returns-in-Some c =
    let same : to_z w32 (of_z w32 c.report_edit.result) ≡ c.report_edit.result = search rules in
    rw same
    (kept_as (IsPutInto c.args.now c.args.id.now c.args.lang.now c.args.text.now)
    (RefusesPutInto c.args.now c.args.id.now c.args.lang.now c.args.text.now)
    (site_of c.args.site.now) c.in-Some.held.now c.put.new.self c.put.result
    c.report_edit.new.told _ (search rules) c.put.ensures.ok c.put.ensures.err
    c.put.ensures.left c.report_edit.ensures)
