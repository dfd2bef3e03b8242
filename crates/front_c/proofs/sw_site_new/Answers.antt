use Rattle.std.proofs.Common.{◌≡◌, rules, of_z, to_z, w32}
use Rattle.front_core.specs.OpenSite.{OrNoMemory, IsNewSite, RefusesNewSite}
use Rattle.front_c.specs.Handles.{site_of}
use Rattle.front_c.proofs.ReportingAskedLemmas.{held_as}
use Rattle.front_c.proofs.sw_site_new.Goals as goal

pub returns : goal.returns
returns c =
    let name = c.args.name.now in
    let same : to_z w32 (of_z w32 c.hold.result) ≡ c.hold.result = search rules in
    rw same
    (held_as c.new.result (IsNewSite name) (RefusesNewSite name) (OrNoMemory (RefusesNewSite name))
    (site_of c.args.site.now) (site_of c.hold.new.site) c.hold.new.told _ c.new.ensures
    (λ fault refused. refused) c.hold.ensures)
