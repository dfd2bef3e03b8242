use Rattle.cell_core.proofs.SiteNameLemmas.{IsUtf8-name}
use Rattle.cell_core.proofs.site_name.SiteName.as_str.Goals as goal

pub before_zeros-requires : goal.before_zeros-requires
before_zeros-requires c = IsUtf8-name _ c.self.invariant.name
