use Rattle.front_core.proofs.OpenSiteLemmas.{opened}
use Rattle.front_core.proofs.open_site.OpenSite.read.Goals as goal

pub returns : goal.returns
returns c =
    opened c.args.text.now c.in_ok-site.site c.of.result c.in_ok-site.ensures c.of.ensures
