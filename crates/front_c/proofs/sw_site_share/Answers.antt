use Rattle.std.proofs.Common.{◌≡◌, rules, of_z, to_z, w32}
use Rattle.front_c.specs.Handles.{site_of}
use Rattle.front_c.proofs.ReportingAskedLemmas.{shared_as}
use Rattle.front_c.proofs.sw_site_share.Goals as goal

pub returns-in-Ok-clause-shared : goal.returns-in-Ok-clause-shared
returns-in-Ok-clause-shared c =
    let same : to_z w32 (of_z w32 c.hold_share.result) ≡ c.hold_share.result = search rules in
    rw same
    (shared_as (site_of c.args.site.now) c.in-Some.held.now c.in-Ok.share
    (site_of c.args.other.now) (site_of c.hold_share.new.other) _ (search rules) c.in-Ok.ensures
    c.hold_share.ensures)
