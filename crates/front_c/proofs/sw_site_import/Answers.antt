use Rattle.std.proofs.Common.{◌≡◌, rules, of_z, to_z, w32}
use Rattle.front_core.specs.OpenSite.{IsImported, RefusesImport}
use Rattle.front_c.specs.Handles.{site_of}
use Rattle.front_c.proofs.ReportingAskedLemmas.{kept_as}
use Rattle.front_c.proofs.sw_site_import.Goals as goal

pub returns-in-Some : goal.returns-in-Some
returns-in-Some c =
    let same : to_z w32 (of_z w32 c.report_edit.result) ≡ c.report_edit.result = search rules in
    rw same
    (kept_as (IsImported c.args.now c.args.maps.now) (RefusesImport c.args.now c.args.maps.now)
    (site_of c.args.site.now) c.in-Some.held.now c.import.new.self c.import.result
    c.report_edit.new.told _ (search rules) c.import.ensures.ok c.import.ensures.err
    c.import.ensures.left c.report_edit.ensures)
