use Rattle.std.proofs.Common.{◌≡◌, rules, subst}
use Rattle.std.specs.Prelude.{IfErr}
use Rattle.std.proofs.lemmas.Result.{IfErr-weaker}
use Rattle.cata_core.specs.Site.{SiteState}
use Rattle.front_core.specs.Change.{RefusesChange}
use Rattle.front_core.specs.OpenSite.{OrNoMemory, RefusesDelete}
use Rattle.front_core.proofs.OpenSiteLemmas.{delete_refused}
use Rattle.front_core.proofs.open_site.OpenSite.delete.Goals as goal

pub returns-clause-err : goal.returns-clause-err
returns-clause-err c =
    let site = c.self.inside.share.value in
    let Refuses = RefusesDelete c.args.now c.args.id.now c.args.lang.now in
    let same : site ≡ c.args.self.now = search rules in
    subst (λ (s : SiteState). IfErr c.make_in.result (OrNoMemory (Refuses s))) same
    (IfErr-weaker c.make_in.result (OrNoMemory (RefusesChange site c.args.now))
    (OrNoMemory (Refuses site))
    (λ fault refused. delete_refused c.args.now c.args.id.now c.args.lang.now site
    c.in_ok-change.change fault c.in_ok-change.ensures refused)
    c.make_in.ensures.err)
