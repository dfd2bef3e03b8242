use Rattle.std.proofs.Common.{◌≡◌, inl, rules, of_z, to_z, w32}
use Rattle.site_docs.specs.Reading.{ReadsAsSite}
use Rattle.front_core.specs.Ask.{RefusesDocument}
use Rattle.front_c.specs.Handles.{site_of}
use Rattle.front_c.proofs.ReportingAskedLemmas.{held_as}
use Rattle.front_c.proofs.sw_site_open.Goals as goal

pub returns : goal.returns
returns c =
    let text = c.args.text.now in
    let same : to_z w32 (of_z w32 c.hold.result) ≡ c.hold.result = search rules in
    rw same
    (held_as c.read.result (ReadsAsSite text) (RefusesDocument text) (RefusesDocument text)
    (site_of c.args.site.now) (site_of c.hold.new.site) c.hold.new.told _ c.read.ensures
    (λ fault refused. inl refused) c.hold.ensures)
