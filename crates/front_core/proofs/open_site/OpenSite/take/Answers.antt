use Rattle.std.proofs.Common.{◌≡◌, rules, subst}
use Rattle.std.specs.Prelude.{IfErr}
use Rattle.std.proofs.lemmas.Result.{IfErr-weaker}
use Rattle.cata_core.specs.Site.{SiteState}
use Rattle.front_core.specs.OpenSite.{OrNoMemory, RefusesTake, RefusesTakeDelta}
use Rattle.front_core.proofs.OpenSiteLemmas.{take_refused}
use Rattle.front_core.proofs.open_site.OpenSite.take.Goals as goal

pub returns-clause-err : goal.returns-clause-err
returns-clause-err c =
    let site = c.self.inside.share.value in
    let delta = c.in_ok-delta.delta in
    let Refuses = RefusesTake c.args.delta.now c.args.checks in
    let same : site ≡ c.args.self.now = search rules in
    subst (λ (s : SiteState). IfErr c.take_in.result (OrNoMemory (Refuses s))) same
    (IfErr-weaker c.take_in.result
    (OrNoMemory (RefusesTakeDelta c.args.checks.own_edits delta site))
    (OrNoMemory (Refuses site))
    (λ fault refused. take_refused c.args.delta.now c.args.checks site delta fault
    c.in_ok-delta.ensures refused)
    c.take_in.ensures.err)
